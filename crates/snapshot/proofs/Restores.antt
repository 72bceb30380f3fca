-- A snapshot's text, imported into the empty store, makes the entities of its table again.
use mathlib.Core.Path.{◌≡◌, refl, sym, ◌∙◌}
use mathlib.Core.Bool.{Bool, true, false}
use mathlib.Core.List.{List, [], ◌∷◌, ◌++◌, append-nil}
use mathlib.Core.Option.{Option, none}
use Prim.Native.Nat.{ℕ, suc, ◌+◌, ◌-◌, ◌≤◌}
use native.Mathlib.Omega.{arith}
use borrow.Author.Tests.{le-leb}
use lib.Dec.{leb, lit<, lit≤}
use lib.ListN.{length}
use Rattle.names.specs.Bytes.{all}
use Rattle.names.specs.Class.{is_value_byte}
use Rattle.names.specs.Date.{is_date}
use Rattle.names.specs.Name.{long_name_most, is_long_name}
use Rattle.names.proofs.DateLaws.{not_later-self}
use Rattle.names.proofs.Ordered.{same_refl}
use Rattle.names.proofs.Tests.{and_i, all_append}
use Rattle.store.specs.Answer.{accepted, ◌>>=◌, ◌>>◌, unless}
use Rattle.store.specs.Change.{Change}
use Rattle.store.specs.Machine.{Machine, changes_of, standing, last_filed, obeys, empty}
use Rattle.store.specs.Calls.{Accepted}
use Rattle.store.specs.Table.{Entity, table}
use Rattle.reader.specs.Tag.{read, Tag, closes}
use Rattle.reader.specs.Element.{element_at, or_else}
use Rattle.reader.specs.Tell.{◌▸◌, opening, tell_below, tell_as, tell_closing, tell}
use Rattle.reader.specs.Judge.{Header, header_of, follows, in_series, open_odm, shown, progress, closing, leaving, act, more, closed, run, words_of, judge}
use Rattle.reader.specs.Import.{file_most, declaration, body, begun, after_odm, from_first, contents, with_file, import_file}
use Rattle.snapshot.specs.Print.{put_tag, put_tags}
use Rattle.snapshot.specs.Snapshot.{entity_tags, odm_tag, clinical_tag, snapshot_tags, snapshot_text}
use Rattle.snapshot.proofs.ByteFacts.{name_printable, date_printable}
use Rattle.snapshot.proofs.Chained.{all_chained}
use Rattle.snapshot.proofs.Facts.{TableFacts}
use Rattle.reader.proofs.Front.{strip-at}
use Rattle.snapshot.proofs.Insert.{element_table}
use Rattle.snapshot.proofs.EntitiesMade.{chain, here, sort_after, all_made}
use Rattle.snapshot.proofs.Plain.{plain-element, plain-entities, plain_odm, plain-clinical}
use Rattle.snapshot.proofs.Reread.{plain_tag, next_tag-at, next_tag_line, judge_all, judged_one, judge-append, tags_line, reread, tags_longer}
use Rattle.snapshot.proofs.Sizes.{long-names, snapshot_bound}
use Rattle.store.proofs.Tables.Size.{makes_of, makes_of_length}

body_at : (s : List ℕ) → body (declaration ++ s) ≡ s
unfolding body or_else
body_at s = rw (strip-at declaration s)

long_printable : (n : List ℕ) → is_long_name n ≡ true → all is_value_byte n ≡ true
unfolding is_long_name
long_printable n e = name_printable long_name_most n e

module _ (study version oid date : List ℕ) where
  -- The header that the ODM tag gives.
  abbrev header : Header
  header = record { oid = oid; date = date; snapshot = true }

  abbrev store : Machine
  store = empty study version

  odm_opens : (s : List ℕ) → is_long_name oid ≡ true → is_date date ≡ true
      → from_first store (odm_tag oid date) s ≡ (after_odm false store header s >>= λ cs. accepted record { header = header; changes = cs })
  unfolding from_first odm_tag element_table open_odm in_series header_of follows standing last_filed empty
  odm_opens s a d = rw (a, d, not_later-self date)

  clinical-opens : (s : List ℕ) → is_long_name study ≡ true → is_long_name version ≡ true → judge store header begun (clinical_tag study version) s ≡ accepted (read (here 0 [] [] none) s)
  unfolding judge tell tell_as tell_below words_of ◌▸◌ run act clinical_tag element_table opening chain empty
  clinical-opens s a b = rw (a, b, same_refl study, same_refl version)

  -- The closing tags of ClinicalData and ODM.
  clinical-closes : (cs : List Change) (i : Option Bool) (s : List ℕ) → judge store header (progress (chain 0 []) cs (shown i)) (closes (element_at 1).name) s ≡ accepted (read (more (progress [] cs (shown i))) s)
  unfolding judge tell tell_closing words_of ◌▸◌ run act leaving closing chain element_table
  clinical-closes cs i s = refl

  odm_closes : (cs : List Change) (i : Option Bool) (s : List ℕ) → judge store header (progress [] cs (shown i)) (closes (element_at 0).name) s ≡ accepted (read (closed cs) s)
  unfolding judge tell tell_closing words_of ◌▸◌ run element_table
  odm_closes cs i s = refl

  all_closed : (cs : List Change) (i : Option Bool) → judge_all [] store header (here 0 [] cs i) (closes (element_at 1).name ∷ closes (element_at 0).name ∷ []) ≡ accepted (closed cs)
  all_closed cs i =
      judged_one [] store header (progress (chain 0 []) cs (shown i)) (more (progress [] cs (shown i))) (closes (element_at 1).name) (closes (element_at 0).name ∷ []) (clinical-closes cs i _)
      ∙ judged_one [] store header (progress [] cs (shown i)) (closed cs) (closes (element_at 0).name) [] (odm_closes cs i _)
      ∙ (unfold judge_all in refl)

  module _ (es : List Entity) (facts : TableFacts es) (study-long : is_long_name study ≡ true) (version-long : is_long_name version ≡ true)
      (oid-long : is_long_name oid ≡ true) (dated : is_date date ≡ true) where
    -- The tags behind the ODM tag.
    abbrev below : List Tag
    below = clinical_tag study version ∷ (entity_tags 0 es ++ (closes (element_at 1).name ∷ closes (element_at 0).name ∷ []))

    abbrev ending : List Tag
    ending = closes (element_at 1).name ∷ closes (element_at 0).name ∷ []

    below_judged : judge_all [] store header (more begun) below ≡ accepted (closed (makes_of es))
    below_judged =
        judged_one [] store header begun (here 0 [] [] none) (clinical_tag study version) (entity_tags 0 es ++ ending) (clinical-opens _ study-long version-long)
        ∙ judge-append [] store header (entity_tags 0 es) ending (here 0 [] [] none) (here 0 [] (makes_of es) (sort_after none es))
        (all_made store (unfold empty changes_of in refl) header refl (put_tags ending []) es facts)
        ∙ all_closed (makes_of es) (sort_after none es)

    below_plain : all plain_tag below ≡ true
    unfolding all
    below_plain =
        and_i _ _ (plain-clinical study version (long_printable study study-long) (long_printable version version-long))
        (all_append plain_tag (entity_tags 0 es) (closes (element_at 1).name ∷ closes (element_at 0).name ∷ []) (plain-entities es 0 [] (lit≤ tt) (all_chained es facts))
        (and_i _ _ (plain-element 1 (lit< tt)) (and_i _ _ (plain-element 0 (lit< tt)) refl)))

    -- They are read to the end: their text is fuel enough.
    below-read : after_odm false store header (10 ∷ put_tags below []) ≡ accepted (makes_of es)
    unfolding after_odm
    below-read =
        let s = put_tags below [] in
        let enough : length below ≤ length s = tags_longer below [] in
        let fuel : suc (length (10 ∷ s)) ≡ length below + (suc (suc (length s)) - length below) = omega arith in
        tags_line (suc (length (10 ∷ s))) store header begun s
        ∙ rw fuel (reread below (suc (suc (length s)) - length below) store header begun (makes_of es) below_plain below_judged)

    text-read : contents store (declaration ++ (10 ∷ put_tags (odm_tag oid date ∷ below) [])) ≡ accepted record { header = header; changes = makes_of es }
    unfolding contents put_tags ◌>>=◌
    text-read =
        rw (
          body_at (10 ∷ put_tag (odm_tag oid date) (put_tags below [])),
          next_tag_line (put_tag (odm_tag oid date) (put_tags below [])),
          next_tag-at (odm_tag oid date) (put_tags below []) (plain_odm oid date (long_printable oid oid-long) (date_printable date dated)),
          odm_opens (10 ∷ put_tags below []) oid-long dated,
          below-read,
        )

-- What the import of a snapshot leaves: the table's entities, made one after another, and so the same table.
pub restores : (m : Machine) (oid date : List ℕ) → TableFacts (table (changes_of m.files)) → obeys m ≡ true → is_long_name oid ≡ true → is_date date ≡ true
    → (t : Accepted) × (import_file (empty m.study m.version) (snapshot_text m oid date) ≡ accepted t)
    × (changes_of t.machine.files ≡ makes_of (table (changes_of m.files)))
    × (t.count ≡ length (table (changes_of m.files)))
    × (table (changes_of t.machine.files) ≡ table (changes_of m.files))
unfolding import_file with_file empty changes_of unless ◌>>=◌ ◌>>◌
restores m oid date facts ok a d =
    let es = table (changes_of m.files) in
    let small : leb (length (snapshot_text m oid date)) file_most ≡ true = le-leb (length (snapshot_text m oid date)) file_most (omega (arith, snapshot_bound m oid date facts ok a d)) in
    let whole : contents (empty m.study m.version) (snapshot_text m oid date) ≡ accepted record { header = header m.study m.version oid date; changes = makes_of es } =
    unfold snapshot_text snapshot_tags in (text-read m.study m.version oid date es facts (long-names m ok).0 (long-names m ok).1 a d) in (
      record { count = length (makes_of es); machine = with_file (empty m.study m.version) record { header = header m.study m.version oid date; changes = makes_of es } },
      rw (small, whole),
      append-nil (makes_of es),
      makes_of_length es,
      rw append-nil (facts.again es [] (sym (append-nil es))),
    )
