-- The row that comes next enters the index: where its key stands or belongs, and what the index says then.
use mathlib.Core.Path.{◌≡◌, refl, sym, ◌∙◌}
use mathlib.Core.Bool.{true, false, false≢true, not}
use mathlib.Core.List.{List}
use Prim.Native.Nat.{ℕ, ◌+◌, ◌≤◌, ◌<◌}
use native.Mathlib.Omega.{arith}
use borrow.Author.Tests.{ltb-true}
use lib.Dec.{ltb}
use lib.ListN.{length, take}
use Rattle.std.specs.Prelude.{Result, Err}
use mir.Syntax.{w64}
use mir.Val.{Fits}
use Rattle.names.specs.Key.{Key}
use Rattle.names.specs.Pick.{◌and◌}
use Rattle.names.proofs.Tests.{and_l, and_r}
use Rattle.store.specs.Change.{Kind, make, write, end, change, is_change}
use Rattle.store.specs.Image.{kind_of}
use Rattle.store.specs.code.Index.{table_at, Indexed, Belongs, inserted}
use Rattle.store.specs.Machine.{live_most}
use Rattle.store.specs.code.Rows.{kind_at, key_at, value_at, change_at}
use Rattle.store.specs.Table.{Entity}
use Rattle.store.specs.code.Pending.{NextRow}
use Rattle.store.specs.code.Turn.{turn, holds, rooted, allowed_in}
use Rattle.store.proofs.Indexing.IndexLaws.{table-length, place-within}
use Rattle.store.proofs.Tables.InTurn.{turn-formed, turn-allowed}
use Rattle.store.proofs.Tables.Ranks.{found_belongs}
use Rattle.store.proofs.Indexing.StepLaws.{dead_made}
use Rattle.store.proofs.Tables.TurnOf.{turn-make}

-- Only a make is allowed of what the table does not hold.
made_by : (d : Kind) (es : List Entity) (k : Key) → holds k es ≡ false → allowed_in d es k ≡ true → d ≡ make
unfolding allowed_in
made_by make es k m e = refl
made_by write es k m e = absurd (false≢true (sym m ∙ e))
made_by end es k m e = absurd (false≢true (sym m ∙ e))

module _ (ns bs : List ℕ) (c : ℕ) (index : List ℕ) (n : ℕ) (found : Result ℕ ℕ) (u : NextRow ns bs c index n found) where
  abbrev here : List Entity
  here = table_at ns bs index n

  abbrev key : Key
  key = key_at ns bs c

  in_turn_lem : turn here (change_at ns bs c) ≡ true
  in_turn_lem = rw u.indexed.says u.allowed

  -- A key that is not live is made, and there is room for it.
  module _ (place : ℕ) (q : found ≡ Err place) where
    pub place-few : place ≤ n
    place-few = place-within ns bs c index n u.indexed key found place u.found-is q

    pub place-fits : Fits w64 (place + 1)
    place-fits = let h = place-few in let few = u.indexed.rows.few in record { fits = omega arith }

    belongs : Belongs key here place
    belongs = found_belongs key here found u.found-is place q

    made_kind : kind_of (kind_at ns c) ≡ make
    made_kind = made_by (kind_of (kind_at ns c)) here key belongs.missing (turn-allowed here (change_at ns bs c) in_turn_lem)

    made_tests : (not (holds key here) and rooted here key and ltb (length here) live_most) ≡ true
    made_tests = and_r (is_change (change make key (value_at ns bs c))) _ (sym (turn-make here key (value_at ns bs c)) ∙ (rw made_kind at in_turn_lem))

    rooted_tests : (rooted here key and ltb (length here) live_most) ≡ true
    rooted_tests = and_r (not (holds key here)) _ made_tests

    made_few : n < live_most
    made_few =
        let l = table-length ns bs c index n u.indexed in
        let h = ltb-true (length here) live_most (and_r (rooted here key) _ rooted_tests) in
        omega arith

    pub made_room : n < length index
    made_room = let few = made_few in let long = u.indexed.rows.long in omega arith

    pub entered_made : (out : List ℕ) → take (n + 1) out ≡ inserted (take n index) place c → length out ≡ length index → Indexed ns bs (c + 1) out (n + 1)
    entered_made out w l =
        dead_made ns bs c index n u.indexed (turn-formed here (change_at ns bs c) in_turn_lem) place belongs (sym made_kind) true
        (sym (and_l (rooted here key) _ rooted_tests)) refl made_few out w l
