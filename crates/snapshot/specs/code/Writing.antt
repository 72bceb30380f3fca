-- The writer by places: what each piece leaves of the output, and the texts of the pieces. Contracts of inner functions cite it.
use Rattle.std.specs.Prelude.{◌≡◌, Bool, true, false, List, [], ◌∷◌, ◌++◌, ℕ, suc, ◌+◌, ◌-◌, ◌≤◌, eqb, length, take, drop, get_or}
use Rattle.names.specs.Bytes.{ch}
use Rattle.names.specs.Key.{Key, Name, names_used, packed}
use Rattle.names.specs.Overwrite.{overwrite}
use Rattle.names.specs.Pick.{pick}
use Rattle.names.specs.Text.{escape}
use Rattle.store.specs.Change.{Value}
use Rattle.store.specs.Machine.{Machine}
use Rattle.store.specs.code.Rows.{packed_at, depth_at, end_at, key_at, value_at}
use Rattle.store.specs.Table.{Entity}
use Rattle.reader.specs.Tag.{closes}
use Rattle.reader.specs.Element.{element_at, attribute_at}
use Rattle.reader.specs.Import.{declaration}
use Rattle.snapshot.specs.declared.writer.Output.{Output}
use Rattle.snapshot.specs.Print.{line_feed, put_attrs, put_end, put_tag, put_tags}
use Rattle.snapshot.specs.Snapshot.{repeat_attr, value_attr, open_tag, close_tags, entity_tags, odm_tag, clinical_tag}

-- The output was d: now s stands in it from n on, if it fits whole. In any case r is the place behind s, so that writing also measures.
pub record Emitted (d : List ℕ) (n : ℕ) (s : List ℕ) (out : List ℕ) (r : ℕ) : Type 0 where
  pub next : r ≡ n + length s
  pub fits : r ≤ length d → out ≡ overwrite d n s
  pub size : length out ≡ length d

-- The output o is p once s was put into it, and lends the same bytes.
pub record Put (o p : Output) (s : List ℕ) : Type 0 where
  pub emitted : Emitted o.bytes.now o.at s p.bytes.now p.at
  pub lent : p.bytes.ghost_name ≡ o.bytes.ghost_name

-- A byte that has no escape.
unfoldable pub is_plain_byte : ℕ → Bool
is_plain_byte c = pick (eqb c (ch "&")) false (pick (eqb c (ch "<")) false (pick (eqb c (ch ">")) false (pick (eqb c (ch "\"")) false true)))

-- No place that is counted goes beyond this one.
abbrev pub place_most : ℕ
place_most = 1000000000

-- From p on stand the packed names of change r's key without the first i, then its value, up to the change's end.
pub record NamesAt (ns bs : List ℕ) (r i p : ℕ) : Type 0 where
  pub stands : take (packed_at + end_at ns r - p) (drop p bs) ≡ packed (drop i (key_at ns bs r)) ++ value_at ns bs r
  pub low : p ≤ packed_at + end_at ns r
  pub high : packed_at + end_at ns r ≤ length bs

-- The names that a key of a depth adds to its parent's.
unfoldable pub own_names_of : ℕ → Key → Key
own_names_of depth k = drop (names_used (depth - 1)) k

-- The first of them stands packed at p, and is written as it is.
pub record OwnAt (ns bs : List ℕ) (r p : ℕ) : Type 0 where
  pub deep : 1 ≤ depth_at ns r
  pub shallow : depth_at ns r ≤ 5
  pub inside : p + 1 + get_or bs p 0 ≤ length bs
  pub name : take (get_or bs p 0) (drop (p + 1) bs) ≡ get_or (own_names_of (depth_at ns r) (key_at ns bs r)) 0 []
  pub plain : escape (get_or (own_names_of (depth_at ns r) (key_at ns bs r)) 0 []) ≡ get_or (own_names_of (depth_at ns r) (key_at ns bs r)) 0 []
  pub next : NamesAt ns bs r (names_used (depth_at ns r - 1) + 1) (p + 1 + get_or bs p 0)

-- The second, a repeat key, stands packed at q, and is written as it is.
pub record RepeatAt (ns bs : List ℕ) (r q : ℕ) : Type 0 where
  pub inside : q + 1 + get_or bs q 0 ≤ length bs
  pub name : take (get_or bs q 0) (drop (q + 1) bs) ≡ get_or (own_names_of (depth_at ns r) (key_at ns bs r)) 1 []
  pub plain : escape (get_or (own_names_of (depth_at ns r) (key_at ns bs r)) 1 []) ≡ get_or (own_names_of (depth_at ns r) (key_at ns bs r)) 1 []

-- An opening tag up to its first value; a repeat key's attribute up to its value.
unfoldable pub head_text : ℕ → List ℕ
head_text depth = ch "<" ∷ ((element_at (suc depth)).name ++ (ch " " ∷ (attribute_at (suc depth) 0 ++ (ch "=" ∷ ch "\"" ∷ []))))

unfoldable pub repeat_head : ℕ → List ℕ
repeat_head depth = ch "\"" ∷ ch " " ∷ (attribute_at (suc depth) 1 ++ (ch "=" ∷ ch "\"" ∷ []))

-- What follows the first value: of a tag with a repeat key, of an item's, of any.
unfoldable pub repeat_text : ℕ → Name → List ℕ
repeat_text depth n = ch "\"" ∷ put_attrs (repeat_attr (attribute_at (suc depth) 1) n) (put_end false [])

unfoldable pub value_text : Value → List ℕ
value_text v = ch "\"" ∷ put_attrs (value_attr v) (put_end true [])

unfoldable pub rest_text : ℕ → Key → Value → List ℕ
rest_text depth own v =
    ch "\""
    ∷ put_attrs (pick (eqb depth 5) (value_attr v) (pick (eqb depth 1) [] (repeat_attr (attribute_at (suc depth) 1) (get_or own 1 []))))
    (put_end (eqb depth 5) [])

-- The opening tag of the entity that change r made or wrote.
unfoldable pub row_text : List ℕ → List ℕ → ℕ → List ℕ
row_text ns bs r = put_tag (open_tag (depth_at ns r) (own_names_of (depth_at ns r) (key_at ns bs r)) (value_at ns bs r)) []

-- The closing tag of a depth, and those of the depths from o down to above j.
unfoldable pub close_text : ℕ → List ℕ
close_text depth = put_tag (closes (element_at (suc depth)).name) []

unfoldable pub closing_text : ℕ → ℕ → List ℕ
closing_text o j = put_tags (close_tags (o - j) j []) []

-- All entities, where the innermost open one has depth o.
unfoldable pub entities_text : ℕ → List Entity → List ℕ
entities_text o es = put_tags (entity_tags o es) []

-- The declaration and ODM's opening tag.
unfoldable pub odm_text : List ℕ → List ℕ → List ℕ
odm_text oid date = declaration ++ (line_feed ∷ put_tag (odm_tag oid date) [])

-- ClinicalData's opening tag.
unfoldable pub clinical_text : List ℕ → List ℕ → List ℕ
clinical_text study version = put_tag (clinical_tag study version) []

-- What stands in front of the entities, and behind them.
unfoldable pub front_text : Machine → List ℕ → List ℕ → List ℕ
front_text m oid date = odm_text oid date ++ clinical_text m.study m.version

unfoldable pub end_text : List ℕ
end_text = put_tags (closes (element_at 1).name ∷ closes (element_at 0).name ∷ []) []

-- The text with any entities: a snapshot's are those of its machine's table.
unfoldable pub list_text : Machine → List Entity → List ℕ → List ℕ → List ℕ
list_text m es oid date = front_text m oid date ++ entities_text 0 es ++ end_text
