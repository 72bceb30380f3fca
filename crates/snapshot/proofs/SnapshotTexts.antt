-- The whole text of a snapshot, and what the call answers.
use mathlib.Core.Path.{◌≡◌, refl, ◌∙◌}
use mathlib.Core.Bool.{Bool, true, false, not}
use mathlib.Core.List.{List, [], ◌∷◌, ◌++◌, append_assoc}
use Prim.Native.Nat.{ℕ, ◌≤◌, ◌<◌}
use native.Mathlib.Nat.{zero-add}
use native.Mathlib.Omega.{arith}
use lib.ListN.{length, take, drop}
use borrow.Author.Tests.{le-leb, lt-leb}
use Rattle.names.specs.Bytes.{bytes}
use Rattle.names.specs.Date.{is_date, date_size}
use Rattle.names.specs.Name.{is_long_name, long_name_most}
use Rattle.names.specs.Overwrite.{overwrite}
use Rattle.names.specs.Pick.{pick, ◌and◌}
use Rattle.names.specs.Text.{escapes, escape_by, escape}
use Rattle.names.proofs.DateLaws.{date-most}
use Rattle.names.proofs.Tests.{and_l, and_r}
use Rattle.store.specs.Answer.{refused, unless, present, ◌>>=◌, ◌>>◌}
use Rattle.store.specs.Calls.{right_lengths, opened}
use Rattle.store.specs.Image.{Buffers, machine_in, study_length, version_length}
use Rattle.store.specs.code.Index.{table_at, Indexed}
use Rattle.store.specs.code.Layout.{change_count}
use Rattle.store.specs.Machine.{Machine, changes_of}
use Rattle.store.specs.Outcomes.{buffers}
use Rattle.store.specs.code.Withdrawal.{Valid}
use Rattle.store.specs.Table.{table, Entity}
use Rattle.store.proofs.Calls.OpenLaws.{right_lengths_lem, opened_unsized}
use Rattle.store.proofs.Images.Rules.{long-name-length}
use Rattle.store.proofs.Lists.Told.{told-no, told-yes}
use Rattle.reader.specs.Tag.{Tag, closes}
use Rattle.reader.specs.Element.{elements, element_at}
use Rattle.reader.specs.Import.{declaration}
use Rattle.snapshot.specs.Print.{put_attr, put_attrs, put_end, put_tag, put_tags}
use Rattle.snapshot.specs.Snapshot.{Reply, written_to, entity_tags, odm_tag, clinical_tag, snapshot_tags, snapshot_text, snapshot, snapshot_call}
use Rattle.snapshot.specs.declared.writer.Output.{Output}
use Rattle.snapshot.specs.code.Writing.{Emitted, Put, entities_text, odm_text, clinical_text, front_text, end_text, list_text}
use Rattle.snapshot.proofs.Emits.{◌▷◌, put_as}
use Rattle.snapshot.proofs.Sizes.{put-append}
use Rattle.snapshot.proofs.TagTexts.{put_tag_lem, put-tags}
use Rattle.snapshot.proofs.WalkLaws.{valid-changes}

-- ODM's opening tag, behind the declaration, and ClinicalData's.
odm_is : (oid date : List ℕ)
    → bytes "<?xml version=\"1.0\" encoding=\"UTF-8\"?>\n<ODM xmlns=\"http://www.cdisc.org/ns/odm/v1.3\" FileType=\"Snapshot\" FileOID=\"" ++ escape oid ++ bytes "\" CreationDateTime=\""
    ++ escape date ++ bytes "\" ODMVersion=\"1.3.2\">\n"
    ≡ odm_text oid date
unfolding odm_text odm_tag put_tag put_attrs put_attr put_end escape escape_by escapes pick elements element_at declaration
odm_is oid date = simp append_assoc

clinical_is : (study version : List ℕ)
    → bytes "<ClinicalData StudyOID=\"" ++ escape study ++ bytes "\" MetaDataVersionOID=\"" ++ escape version ++ bytes "\">\n" ≡ clinical_text study version
unfolding clinical_text clinical_tag put_tag put_attrs put_attr put_end elements element_at
clinical_is study version = simp append_assoc

module _ (o p q r s t : Output) where
  pub odm_put : (oid date : List ℕ)
      → Put o p (bytes "<?xml version=\"1.0\" encoding=\"UTF-8\"?>\n<ODM xmlns=\"http://www.cdisc.org/ns/odm/v1.3\" FileType=\"Snapshot\" FileOID=\"") → Put p q (escape oid)
      → Put q r (bytes "\" CreationDateTime=\"") → Put r s (escape date) → Put s t (bytes "\" ODMVersion=\"1.3.2\">\n") → Put o t (odm_text oid date)
  odm_put oid date u v w x y = put_as o t _ (odm_text oid date) (odm_is oid date) (u ▷ v ▷ w ▷ x ▷ y)

  pub clinical_put : (study version : List ℕ) → Put o p (bytes "<ClinicalData StudyOID=\"") → Put p q (escape study) → Put q r (bytes "\" MetaDataVersionOID=\"")
      → Put r s (escape version) → Put s t (bytes "\">\n") → Put o t (clinical_text study version)
  clinical_put study version u v w x y = put_as o t _ (clinical_text study version) (clinical_is study version) (u ▷ v ▷ w ▷ x ▷ y)

-- The whole.
end_is : bytes "</ClinicalData>\n</ODM>\n" ≡ end_text
unfolding end_text put_tags put_tag put_end elements element_at
end_is = refl

snapshot-is : (m : Machine) (oid date : List ℕ) → list_text m (table (changes_of m.files)) oid date ≡ snapshot_text m oid date
unfolding list_text front_text snapshot_text snapshot_tags odm_text clinical_text entities_text end_text put_tags
snapshot-is m oid date =
    let odm : Tag = odm_tag oid date in
    let clinical : Tag = clinical_tag m.study m.version in
    let es : List Tag = entity_tags 0 (table (changes_of m.files)) in
    let ends : List Tag = closes (element_at 1).name ∷ closes (element_at 0).name ∷ [] in
    let e1 : put_tags (es ++ ends) [] ≡ put_tags es [] ++ put_tags ends [] = put-append es ends [] ∙ put-tags es [] (put_tags ends []) in
    let e2 : put_tag clinical (put_tags (es ++ ends) []) ≡ put_tag clinical [] ++ (put_tags es [] ++ put_tags ends []) = rw e1 (put_tag_lem clinical [] (put_tags es [] ++ put_tags ends [])) in
    let e3 : put_tag odm (put_tag clinical (put_tags (es ++ ends) [])) ≡ put_tag odm [] ++ (put_tag clinical [] ++ (put_tags es [] ++ put_tags ends [])) =
    rw e2 (put_tag_lem odm [] (put_tag clinical [] ++ (put_tags es [] ++ put_tags ends []))) in
    rw e3 (simp append_assoc)

pub front_put : (o p q : Output) (ns bs oid date s t : List ℕ) → s ≡ take (study_length ns) (drop 0 bs) → t ≡ take (version_length ns) (drop long_name_most bs)
    → Put o p (odm_text oid date) → Put p q (clinical_text s t) → Put o q (front_text (machine_in (buffers ns bs)) oid date)
unfolding machine_in front_text
front_put o p q ns bs oid date s t f g u v =
    let m : Machine = machine_in (buffers ns bs) in
    let clinical : Put p q (clinical_text m.study m.version) = rw (f, g) at v in
    u ▷ clinical

pub list_put : (o p q r : Output) (m : Machine) (es : List Entity) (oid date : List ℕ) → Put o p (front_text m oid date) → Put p q (entities_text 0 es)
    → Put q r (bytes "</ClinicalData>\n</ODM>\n") → Put o r (list_text m es oid date)
unfolding list_text
list_put o p q r m es oid date u v w = u ▷ v ▷ put_as q r _ end_text end_is w

-- The index of a valid image lists the entities of its machine's table.
pub index_listed : (ns bs index : List ℕ) (n : ℕ) (oid date : List ℕ) → Valid ns bs → Indexed ns bs (change_count ns) index n
    → list_text (machine_in (buffers ns bs)) (table_at ns bs index n) oid date ≡ snapshot_text (machine_in (buffers ns bs)) oid date
index_listed ns bs index n oid date v x = rw (x.says, valid-changes ns bs v) (snapshot-is (machine_in (buffers ns bs)) oid date)

-- Written where nothing fits, it is measured.
pub measured : (d s x : List ℕ) (r : ℕ) → Emitted d 0 s x r → r ≡ length s
measured d s x r w = w.next ∙ zero-add (length s)

-- The call's answers; "Checks 1, 2, 7, 14." The code asks whether FileOID and date fail their tests, which gave t.
module _ (oid date : List ℕ) (t : Bool) (e : t ≡ (is_long_name oid and is_date date)) where
  module _ (h : not t ≡ false) where
    held : (is_long_name oid and is_date date) ≡ true
    held = told-yes t (is_long_name oid and is_date date) e h

    pub oid-short : length oid ≤ long_name_most
    oid-short = long-name-length oid (and_l _ _ held)

    pub date-short : length date ≤ date_size
    date-short = date-most date (and_r (is_long_name oid) _ held)

  module _ (b : Buffers) (m : Machine) (out : List ℕ) where
    pub snapshot-header : not t ≡ true → record { refusal = 7; count = 0; buffers = b; output = out } ≡ written_to b out (snapshot m oid date (length out))
    unfolding snapshot written_to unless ◌>>◌ ◌>>=◌
    snapshot-header h = rw (told-no t (is_long_name oid and is_date date) e h)

    module _ (h : not t ≡ false) (text : List ℕ) (is : text ≡ snapshot_text m oid date) (size : ℕ) (s : size ≡ length text) where
      pub snapshot-small : length out < size → record { refusal = 14; count = 0; buffers = b; output = out } ≡ written_to b out (snapshot m oid date (length out))
      unfolding snapshot written_to unless ◌>>◌ ◌>>=◌
      snapshot-small l = rw (held h, ← is, lt-leb (length text) (length out) (omega arith))

      pub snapshot-done : (out' : List ℕ) (count : ℕ) → size ≤ length out → Emitted out 0 text out' count
          → record { refusal = 0; count = count; buffers = b; output = out' } ≡ written_to b out (snapshot m oid date (length out))
      unfolding snapshot written_to unless ◌>>◌ ◌>>=◌
      snapshot-done out' count l w =
          let c : count ≡ length text = measured out text out' count w in
          let o : out' ≡ overwrite out 0 text = w.fits (omega arith) in
          rw (held h, ← is, le-leb (length text) (length out) (omega arith), o, c)

pub ruleset snapshot-answers = (snapshot-header, snapshot-small, snapshot-done, index_listed)

pub call_unsized : (b : Buffers) (oid date out : List ℕ) (n : ℕ) → refused n ≡ unless (right_lengths b) 1 → record { refusal = n; count = 0; buffers = b; output = out } ≡ snapshot_call b oid date out
unfolding snapshot_call written_to ◌>>=◌
call_unsized b oid date out n e = rw (opened_unsized b n e)

pub call_refused : (b : Buffers) (oid date out : List ℕ) (n : ℕ) → refused n ≡ opened b → record { refusal = n; count = 0; buffers = b; output = out } ≡ snapshot_call b oid date out
unfolding snapshot_call written_to ◌>>=◌
call_refused b oid date out n e = rw (← e)

pub call-read : (ns bs oid date out : List ℕ) (x : Reply) → x ≡ written_to (buffers ns bs) out (snapshot (machine_in (buffers ns bs)) oid date (length out)) → Valid ns bs
    → x ≡ snapshot_call (buffers ns bs) oid date out
unfolding snapshot_call opened unless present ◌>>◌ ◌>>=◌
call-read ns bs oid date out x e v = e ∙ rw (right_lengths_lem (buffers ns bs) v.numbers v.bytes, v.read)
