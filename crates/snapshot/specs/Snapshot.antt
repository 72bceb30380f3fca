-- The snapshot: "writes exactly the live entities, in key order, in fixed bytes".
use Rattle.std.specs.Prelude.{false, List, [], ◌∷◌, ◌++◌, ℕ, zero, suc, ◌+◌, ◌-◌, min, eqb, leb, length, drop, get_or}
use Rattle.names.specs.Bytes.{bytes}
use Rattle.names.specs.Date.{is_date}
use Rattle.names.specs.Key.{Key, Name, depth_of, names_used}
use Rattle.names.specs.Name.{is_long_name}
use Rattle.names.specs.Overwrite.{overwrite}
use Rattle.names.specs.Pick.{pick, ◌and◌}
use Rattle.store.specs.Answer.{Answer, refused, accepted, ◌>>=◌, ◌>>◌, unless}
use Rattle.store.specs.Change.{Value}
use Rattle.store.specs.Machine.{Machine, changes_of}
use Rattle.store.specs.Table.{Entity, table}
use Rattle.store.specs.Image.{Buffers}
use Rattle.store.specs.Calls.{opened}
use Rattle.reader.specs.Tag.{Attr, attr, Tag, opens, closes}
use Rattle.reader.specs.Element.{element_at, attribute_at}
use Rattle.reader.specs.Import.{declaration}
use Rattle.snapshot.specs.Print.{line_feed, put_tags}
use Rattle.store.specs.declared.answer.Answer.{Answer as Numbers}

-- "Absent repeat keys are omitted."
unfoldable pub repeat_attr : List ℕ → Name → List Attr
repeat_attr n [] = []
repeat_attr n (c ∷ r) = attr n (c ∷ r) ∷ []

-- "Null is `IsNull="Yes"`."
unfoldable pub value_attr : Value → List Attr
value_attr [] = attr (bytes "IsNull") (bytes "Yes") ∷ []
value_attr (c ∷ v) = attr (bytes "Value") (c ∷ v) ∷ []

-- The attributes of an entity from its own names and its value; "attributes keep the element table's order".
unfoldable pub entity_attributes : ℕ → Key → Value → List Attr
entity_attributes depth own v =
    attr (attribute_at (suc depth) 0) (get_or own 0 [])
    ∷ pick (eqb depth 5) (value_attr v) (pick (eqb depth 1) [] (repeat_attr (attribute_at (suc depth) 1) (get_or own 1 [])))

-- "Items are self-closing ..; all else opens and closes."
unfoldable pub open_tag : ℕ → Key → Value → Tag
open_tag depth own v = opens (element_at (suc depth)).name (entity_attributes depth own v) (eqb depth 5)

-- The closing tags of the depths from n + d down to above d, in front of others.
unfoldable pub close_tags : ℕ → ℕ → List Tag → List Tag
close_tags zero d ts = ts
close_tags (suc n) d ts = closes (element_at (suc (suc (n + d)))).name ∷ close_tags n d ts

-- The tags of the entities, in key order, where the innermost open entity has depth o; 0 is ClinicalData. Of an item nothing stays open.
unfoldable pub entity_tags : ℕ → List Entity → List Tag
entity_tags o [] = close_tags o 0 []
entity_tags o (e ∷ es) =
    let j = depth_of e.key - 1 in
    close_tags (o - j) j (open_tag (suc j) (drop (names_used j) e.key) e.value ∷ entity_tags (min (suc j) 4) es)

unfoldable pub odm_tag : List ℕ → List ℕ → Tag
odm_tag oid date = opens (element_at 0).name
    (attr (bytes "xmlns") (bytes "http://www.cdisc.org/ns/odm/v1.3") ∷ attr (bytes "FileType") (bytes "Snapshot") ∷ attr (bytes "FileOID") oid
    ∷ attr (bytes "CreationDateTime") date ∷ attr (bytes "ODMVersion") (bytes "1.3.2") ∷ [])
    false

unfoldable pub clinical_tag : List ℕ → List ℕ → Tag
clinical_tag study version =
    opens (element_at 1).name (attr (bytes "StudyOID") study ∷ attr (bytes "MetaDataVersionOID") version ∷ []) false

-- "ClinicalData stands even if nothing is live."
unfoldable pub snapshot_tags : Machine → List ℕ → List ℕ → List Tag
snapshot_tags m oid date =
    odm_tag oid date
    ∷ clinical_tag m.study m.version
    ∷ (entity_tags 0 (table (changes_of m.files)) ++ (closes (element_at 1).name ∷ closes (element_at 0).name ∷ []))

unfoldable pub snapshot_text : Machine → List ℕ → List ℕ → List ℕ
snapshot_text m oid date = declaration ++ (line_feed ∷ put_tags (snapshot_tags m oid date) [])

-- The snapshot in an output of so many bytes: 7, then "14 output shorter than the snapshot".
unfoldable pub snapshot : Machine → List ℕ → List ℕ → ℕ → Answer (List ℕ)
snapshot m oid date room =
    unless (is_long_name oid and is_date date) 7
    >> unless (leb (length (snapshot_text m oid date)) room) 14
    >> accepted (snapshot_text m oid date)

-- The answer of a call: "a refusal number (0 accepted) and a count", and the final contents of every lent buffer: the store's two, and the output.
pub record Reply : Type 0 where
  pub refusal : ℕ
  pub count : ℕ
  pub buffers : Buffers
  pub output : List ℕ

-- "Snapshot (store, FileOID, date, output): count is bytes written; the rest of the output is unchanged", and so is the store; "0 when refused"; "A refused
-- call changes no lent buffer."
unfoldable pub written_to : Buffers → List ℕ → Answer (List ℕ) → Reply
written_to b out (refused n) = record { refusal = n; count = 0; buffers = b; output = out }
written_to b out (accepted s) = record { refusal = 0; count = length s; buffers = b; output = overwrite out 0 s }

-- The code's answer, its two numbers, with the buffers and the output that it leaves.
abbrev pub reply_of : Numbers → Buffers → List ℕ → Reply
reply_of a b out = record { refusal = a.refusal; count = a.count; buffers = b; output = out }

-- "Checks 1, 2, 7, 14."
unfoldable pub snapshot_call : Buffers → List ℕ → List ℕ → List ℕ → Reply
snapshot_call b oid date out = written_to b out (opened b >>= λ m. snapshot m oid date (length out))
