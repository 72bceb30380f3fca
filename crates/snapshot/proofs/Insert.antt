-- What the judge does with the opening tag of a written entity: it makes the entity.
use mathlib.Core.Path.{◌≡◌, refl, ◌∙◌}
use mathlib.Core.Bool.{Bool, true, false, ◌||◌, false≢true}
use mathlib.Core.List.{List, [], ◌∷◌, ◌++◌}
use mathlib.Core.Option.{Option, none, some}
use Prim.Native.Nat.{ℕ, zero, suc, ◌≤◌}
use native.Mathlib.Omega.{arith}
use lib.Dec.{eqb}
use lib.ListN.{length}
use Rattle.names.specs.Bytes.{bytes, all, any}
use Rattle.names.specs.Key.{Key, Name, is_repeat, own_names}
use Rattle.names.specs.Name.{is_name, is_value}
use Rattle.names.specs.Order.{alike, same}
use Rattle.names.specs.Pick.{pick, ◌and◌}
use Rattle.store.specs.Answer.{accepted, ◌>>=◌, ◌>>◌, unless, present}
use Rattle.store.specs.Change.{make, change, Value, is_null, live}
use Rattle.store.specs.Machine.{Machine, changes_of, within_limits}
use Rattle.store.specs.Word.{insert, decide}
use Rattle.reader.specs.Tag.{Attr, opens, has}
use Rattle.reader.specs.Element.{elements, element_at, attribute_at, next, element_in, element_of, may_stand, has_form, get, or_else, known, complete, formed_by, formed, both, alike_items, one_sort, sort_behind, well_placed}
use Rattle.reader.specs.Tell.{◌▸◌, given, word_here, word_in, opening, place_behind, tell_below, tell_as, tell}
use Rattle.reader.specs.Judge.{Header, frame, shown, Progress, progress, adding, effect, settle, outer_key, key_here, value_by, act, run, words_of, place_of, judge}
use Rattle.reader.proofs.Invariant.{words-length}
use Rattle.snapshot.specs.Snapshot.{repeat_attr, value_attr, entity_attributes}

-- What the attributes of a written entity give.
pub record Reads (items : Option Bool) (d : ℕ) (as' : List Attr) (own : Key) (v : Value) : Type 0 where
  pub placed : well_placed items (suc d) (element_at (suc d)).name as' ≡ accepted (suc d)
  pub bodiless : (element_at (suc d)).body ≡ none
  pub names : own_names d (or_else [] (get (attribute_at (suc d) 0) as')) (or_else [] (get (attribute_at (suc d) 1) as')) ≡ own
  pub value : or_else [] (get (bytes "Value") as') ≡ v
  pub word : get (bytes "TransactionType") as' ≡ none

-- The element table and the answers about it, computed.
unfoldable pub element_table : Unit {0}
unfolding elements element_at attribute_at next element_in element_of may_stand has_form get or_else known complete formed_by formed both one_sort well_placed has all any same alike pick ◌and◌ unless present ◌>>=◌ ◌>>◌
element_table = tt

-- A snapshot's items are untyped, so the items so far are none or untyped.
pub reads : (items : Option Bool) (j : ℕ) (n r : Name) (v : Value) → j ≤ 4 → is_name n ≡ true → is_repeat r ≡ true → is_value v ≡ true → (eqb (suc j) 5 || is_null v) ≡ true
    → alike_items items false ≡ true → Reads items (suc j) (entity_attributes (suc j) (own_names (suc j) n r) v) (own_names (suc j) n r) v
unfolding element_table own_names entity_attributes repeat_attr value_attr is_repeat is_null
reads i zero n r [] b a c d e u = record { placed = rw a; bodiless = refl; names = refl; value = refl; word = refl }
reads i (suc zero) n [] [] b a c d e u = record { placed = rw a; bodiless = refl; names = refl; value = refl; word = refl }
reads i (suc zero) n (x ∷ r) [] b a c d e u = record { placed = rw (a, c); bodiless = refl; names = refl; value = refl; word = refl }
reads i (suc (suc zero)) n [] [] b a c d e u = record { placed = rw a; bodiless = refl; names = refl; value = refl; word = refl }
reads i (suc (suc zero)) n (x ∷ r) [] b a c d e u = record { placed = rw (a, c); bodiless = refl; names = refl; value = refl; word = refl }
reads i (suc (suc (suc zero))) n [] [] b a c d e u = record { placed = rw a; bodiless = refl; names = refl; value = refl; word = refl }
reads i (suc (suc (suc zero))) n (x ∷ r) [] b a c d e u = record { placed = rw (a, c); bodiless = refl; names = refl; value = refl; word = refl }
reads i (suc (suc (suc (suc zero)))) n r [] b a c d e u = record { placed = rw (a, u); bodiless = refl; names = refl; value = refl; word = refl }
reads i (suc (suc (suc (suc zero)))) n r (x ∷ v) b a c d e u = record { placed = rw (a, d, u); bodiless = refl; names = refl; value = refl; word = refl }
reads i (suc (suc (suc (suc (suc j))))) n r v b a c d e u = absurd (omega arith)
reads i zero n r (x ∷ v) b a c d e u = absurd (false≢true e)
reads i (suc zero) n r (x ∷ v) b a c d e u = absurd (false≢true e)
reads i (suc (suc zero)) n r (x ∷ v) b a c d e u = absurd (false≢true e)
reads i (suc (suc (suc zero))) n r (x ∷ v) b a c d e u = absurd (false≢true e)

-- In a Snapshot, whose word is Insert, the tag of an entity that is not live makes it, within the limits.
module _ (m : Machine) (h : Header) (snap : h.snapshot ≡ true) (p : Progress) (j : ℕ) (deep : length p.frames ≡ suc j) where
  pub insert_open : (as' : List Attr) (self : Bool) (own : Key) (v : Value) (s : List ℕ) → Reads p.shown.items (suc j) as' own v
      → live (changes_of m.files ++ p.added) (outer_key p.frames ++ own) ≡ false
      → within_limits (changes_of m.files ++ (p.added ++ change make (outer_key p.frames ++ own) v ∷ [])) ≡ true
      → judge m h p (opens (element_at (suc (suc j))).name as' self) s
      ≡ run m (progress (frame (outer_key p.frames ++ own) (some insert) false ∷ p.frames) (p.added ++ change make (outer_key p.frames ++ own) v ∷ []) (shown (sort_behind (suc (suc j)) p.shown.items)))
      (opening self (some insert) (place_behind (suc (suc j)) (place_of p)) s)
  unfolding judge tell tell_as tell_below word_in word_here given ◌▸◌ run act settle effect key_here value_by adding decide unless ◌>>=◌ ◌>>◌
  insert_open as' self own v s w fresh fitting =
      let open' : length (words_of p.frames) ≡ suc j = words-length p.frames ∙ deep in
      rw (open', w.placed, w.bodiless, open', snap, w.word, deep, w.names, w.bodiless, w.value, fresh, fitting)
