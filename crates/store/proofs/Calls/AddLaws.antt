-- A change is added behind the others: the machine is read as before, the changes by places are one more, and the index goes on.
use mathlib.Core.Path.{◌≡◌, refl, sym, ◌∙◌, ap}
use mathlib.Core.Bool.{Bool, true, false}
use mathlib.Core.List.{List, [], ◌∷◌, ◌++◌, append-nil, append_assoc}
use Prim.Native.Nat.{ℕ, suc, ◌+◌, ◌*◌, ◌≤◌, ◌<◌}
use native.Mathlib.Numerals.{add-one}
use native.Mathlib.Omega.{arith}
use Rattle.std.specs.Prelude.{Result}
use lib.Dec.{leb}
use lib.ListN.{length, drop}
use lib.Seq.{drop_at}
use Rattle.names.specs.Bytes.{all}
use Rattle.names.proofs.OverwriteLaws.{overwrite-length}
use Rattle.names.proofs.Tests.{and_r, and_i, all_append, all_one}
use Rattle.store.specs.Answer.{refused, accepted, ◌>>=◌, ◌>>◌, unless}
use Rattle.store.specs.Change.{Change, is_change, changes_bytes}
use Rattle.store.specs.Image.{change_in, change_row, machine_in, numbers_size, bytes_size, row_with}
use Rattle.store.specs.code.Index.{table_at, Indexed}
use Rattle.store.specs.code.Layout.{change_count, row_fits, rows_fit}
use Rattle.store.specs.Machine.{Machine, changes_of, obeys, within_limits, allowed_by, changes_most, bytes_most, live_most}
use Rattle.store.specs.Outcomes.{buffers}
use Rattle.store.specs.code.Rows.{rows_at, packed_at, key_at, change_at, first_changes}
use Rattle.store.specs.Table.{table}
use Rattle.store.specs.code.Turn.{turn}
use Rattle.store.specs.code.With.{With}
use Rattle.store.specs.code.Writes.{Appended}
use Rattle.store.proofs.Layouts.ChangesLaid.{first_changes-length}
use Rattle.store.proofs.Tables.InTurn.{turn_past}
use Rattle.store.proofs.Images.WithLaws.{append-is}
use Rattle.store.specs.code.Pending.{machine_of, added_at, Taking, NextChange, NextRow, LooksUp, room_for, changes_with, Grown, Overfull}
use Rattle.store.specs.declared.pending.Pending.{Pending}
use Rattle.store.proofs.Indexing.IndexFrame.{last_same, indexed-same}
use Rattle.store.proofs.Calls.RoomLaws.{limits_room, room-changes, room-bytes}
use Rattle.store.proofs.Calls.PendingLaws.{taking-formed, with_changes_lem}
use Rattle.store.proofs.Images.WithReads.{with_machine, with_first, with_rows}
use Rattle.store.proofs.Indexing.ReplayLaws.{row_at}

-- A machine is read from the buffers that hold it with its own changes first.
machine_in_lem : (m : Machine) (cs more : List Change) (ns bs : List ℕ) (c b : ℕ) → With m cs ns bs c b → cs ≡ changes_of m.files ++ more → obeys m ≡ true
    → machine_in (buffers ns bs) ≡ m
machine_in_lem m cs more ns bs c b w e o = rw (w.numbers, w.bytes, e) (with_machine m more o)

module _ (ns bs index : List ℕ) (t : Pending) (kind depth : ℕ) (text ns' bs' : List ℕ) (k : Taking ns bs index t) (u : NextChange ns bs t kind depth text)
    (room : room_for t kind (length text) ≡ true) (a : Appended ns bs t.changes t.bytes kind depth text ns' bs') where
  abbrev past : List Change
  past = first_changes ns bs t.changes

  abbrev next : Change
  next = change_in kind depth text

  abbrev own : Machine
  own = machine_of ns bs

  few : t.changes < changes_most
  few = room-changes t kind (length text) k.loaded.small room

  small : t.bytes + length text ≤ bytes_most
  small = room-bytes t kind (length text) k.loaded.small room

  with_more : With own (past ++ next ∷ []) ns' bs' (t.changes + 1) (t.bytes + length text)
  with_more =
      append-is own k.loaded.rules ns bs ns' bs' past next t.changes t.bytes kind depth text k.loaded.holds (sym u.kind-is) (sym u.depth_is) (sym u.whole) few small a

  more-formed : all is_change (past ++ next ∷ []) ≡ true
  more-formed = all_append is_change past (next ∷ []) (taking-formed ns bs index t k) (all_one is_change next u.formed)

  more-joined : past ++ next ∷ [] ≡ changes_of own.files ++ (added_at ns bs t.changes ++ next ∷ [])
  more-joined = ap (λ (l : List Change). l ++ next ∷ []) k.loaded.joined ∙ append_assoc (changes_of own.files) (added_at ns bs t.changes) (next ∷ [])

  same-machine : machine_of ns' bs' ≡ own
  same-machine = machine_in_lem own (past ++ next ∷ []) (added_at ns bs t.changes ++ next ∷ []) ns' bs' (t.changes + 1) (t.bytes + length text) with_more more-joined k.loaded.rules

  more-first : (xs ys : List Change) → past ++ next ∷ [] ≡ xs ++ ys → first_changes ns' bs' (length xs) ≡ xs
  more-first = with_first own k.loaded.rules (past ++ next ∷ []) ns' bs' (t.changes + 1) (t.bytes + length text) with_more more-formed small

  same_past : first_changes ns' bs' t.changes ≡ past
  same_past = ap (first_changes ns' bs') k.loaded.holds.changes ∙ more-first past (next ∷ []) refl

  more_past : first_changes ns' bs' (t.changes + 1) ≡ past ++ next ∷ []
  more_past = ap (first_changes ns' bs') with_more.changes ∙ more-first (past ++ next ∷ []) [] (sym (append-nil (past ++ next ∷ [])))

  change-is : change_at ns' bs' t.changes ≡ next
  unfolding first_changes
  change-is =
      let s : first_changes ns' bs' (suc t.changes) ≡ past ++ next ∷ [] = rw add-one at more_past in
      last_same (first_changes ns' bs' t.changes) past (change_at ns' bs' t.changes) next
      (first_changes-length ns' bs' t.changes ∙ sym (first_changes-length ns bs t.changes)) s

  pushed_index : Indexed ns' bs' t.changes index t.entries
  pushed_index = indexed-same ns bs ns' bs' t.changes same_past index t.entries k.indexed

  pushed_fits : row_fits ns' bs' t.changes ≡ true
  pushed_fits =
      let all_fit : rows_fit ns' bs' (t.changes + 1) ≡ true =
      ap (rows_fit ns' bs') with_more.changes
      ∙ with_rows own k.loaded.rules (past ++ next ∷ []) ns' bs' (t.changes + 1) (t.bytes + length text) with_more more-formed small (past ++ next ∷ []) [] (sym (append-nil (past ++ next ∷ []))) in
      row_at ns' bs' (t.changes + 1) t.changes all_fit (omega arith)

  within_limits_lem : within_limits (past ++ next ∷ []) ≡ true
  within_limits_lem = limits_room ns bs index t kind depth text k u ∙ room

  live-within : leb (length (table (past ++ next ∷ []))) live_most ≡ true
  unfolding within_limits
  live-within = and_r (leb (length (changes_bytes (past ++ next ∷ []))) bytes_most) _ (and_r (leb (length (past ++ next ∷ [])) changes_most) _ within_limits_lem)

  -- It is allowed in its turn.
  in_turn_lem : turn (table (first_changes ns' bs' t.changes)) (change_at ns' bs' t.changes) ≡ true
  in_turn_lem =
      rw (same_past, change-is, turn_past past next)
      (and_i (is_change next) _ u.formed (and_i (allowed_by next.kind past next.key) _ u.allowed live-within))

  more_added : added_at ns' bs' (t.changes + 1) ≡ added_at ns bs t.changes ++ next ∷ []
  unfolding added_at
  more_added =
      let c : change_count ns' ≡ length (changes_of own.files) = with_changes_lem own (past ++ next ∷ []) ns' bs' (t.changes + 1) (t.bytes + length text) with_more in
      rw (more_past, c)
      (ap (drop (length (changes_of own.files))) more-joined ∙ drop_at (changes_of own.files) (added_at ns bs t.changes ++ next ∷ []) (length (changes_of own.files)) refl)

  numbers-same : length ns' ≡ numbers_size
  numbers-same =
      let n = k.loaded.numbers-size in
      let f = few in
      ap length a.numbers ∙ overwrite-length ns (rows_at + change_row * t.changes) (row_with kind depth (t.bytes + length text)) (omega arith) ∙ n

  bytes_same : length bs' ≡ bytes_size
  bytes_same =
      let n = k.loaded.bytes-size in
      let s = small in
      ap length a.bytes ∙ overwrite-length bs (packed_at + t.bytes) text (omega arith) ∙ n

  pub grown : (index' : List ℕ) (n finger : ℕ) → Indexed ns' bs' (t.changes + 1) index' n
      → Grown ns bs t next ns' bs' index' record { changes = t.changes + 1; bytes = t.bytes + length text; entries = n; finger = finger }
  grown index' n finger x =
      let f = few in
      record {
        within = within_limits_lem;
        machine = same-machine;
        changes = more_past;
        added = more_added;
        taking = record {
          loaded = record {
            numbers-size = numbers-same;
            bytes-size = bytes_same;
            rules = rw same-machine k.loaded.rules;
            holds = rw (same-machine, more_past) with_more;
            joined = rw (same-machine, more_added, more_past) more-joined;
            few = omega arith;
            small = small;
          };
          indexed = x;
        };
      }

  -- The row is up, and its key is where it was seen.
  pub pushed_row : (lookup : Result ℕ ℕ) → LooksUp ns bs index t next.key lookup → NextRow ns' bs' t.changes index t.entries lookup
  pushed_row lookup s =
      let key : key_at ns' bs' t.changes ≡ next.key = ap (λ (c : Change). c.key) change-is in
      let same : table_at ns' bs' index t.entries ≡ table_at ns bs index t.entries = pushed_index.says ∙ ap table same_past ∙ sym k.indexed.says in
      record {
        numbers-size = numbers-same;
        bytes-size = bytes_same;
        few = few;
        indexed = pushed_index;
        fits = pushed_fits;
        allowed = in_turn_lem;
        found-is = rw (key, same) s;
      }

-- By this paper's numbers.
pub added-within : (ns bs : List ℕ) (t : Pending) (x : Change) (ns' bs' index' : List ℕ) (t' : Pending) → Grown ns bs t x ns' bs' index' t'
    → accepted (first_changes ns' bs' t'.changes) ≡ changes_with (first_changes ns bs t.changes) x
unfolding changes_with unless ◌>>◌ ◌>>=◌
added-within ns bs t x ns' bs' index' t' g = rw (g.within, g.changes)

pub added-beyond : (ns bs index : List ℕ) (t : Pending) (kind depth : ℕ) (text : List ℕ) (r : Bool) → Taking ns bs index t → NextChange ns bs t kind depth text
    → r ≡ room_for t kind (length text) → r ≡ false → refused 13 ≡ changes_with (first_changes ns bs t.changes) (change_in kind depth text)
unfolding changes_with unless ◌>>◌ ◌>>=◌
added-beyond ns bs index t kind depth text r k u e f = rw (limits_room ns bs index t kind depth text k u ∙ sym e ∙ f)

-- No room: nothing is written.
pub no_room : (ns bs index : List ℕ) (t : Pending) (kind depth : ℕ) (text : List ℕ) (r : Bool) → Taking ns bs index t → NextChange ns bs t kind depth text
    → r ≡ room_for t kind (length text) → r ≡ false → Overfull ns bs t (change_in kind depth text) ns bs
no_room ns bs index t kind depth text r k u e f =
    record { beyond = limits_room ns bs index t kind depth text k u ∙ sym e ∙ f; numbers = refl; bytes = refl }
