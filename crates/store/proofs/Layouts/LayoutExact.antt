-- The tests of the layout and the changes in turn say exactly what `read_image` says; and what the machine is where they hold.
use mathlib.Core.Path.{◌≡◌, refl, ap}
use mathlib.Core.Bool.{Bool, true, false}
use mathlib.Core.List.{List, []}
use mathlib.Core.Option.{none, some}
use Prim.Native.Nat.{ℕ, suc}
use lib.ListN.{length}
use Rattle.names.specs.Order.{same}
use Rattle.names.specs.Pick.{pick, ◌and◌}
use Rattle.names.proofs.Ordered.{same_eq, same_refl}
use Rattle.names.proofs.Tests.{and_l, and_r, and_i, each_way}
use Rattle.store.specs.Change.{Change}
use Rattle.store.specs.Image.{numbers_size, bytes_size, numbers_of, bytes_of, Buffers, image, machine_in, read_image}
use Rattle.store.specs.code.Layout.{file_count, change_count, laid_out}
use Rattle.store.specs.Machine.{Machine, in_turn, obeys, last_filed}
use Rattle.store.specs.code.Rows.{first_changes}
use Rattle.store.proofs.Layouts.FilesLaid.{file_at, first_files}
use Rattle.store.proofs.Layouts.ImageLaid.{image-changes, image_laid}
use Rattle.store.proofs.Layouts.BuffersLaid.{LaidOut, laid_out_lem, laid_out_by, machine_at, laid_machine, machine-image, machine-obeys}
use Rattle.store.proofs.Images.Rules.{rules_of}
use Rattle.store.proofs.Lists.LastOf.{last_filed_snoc}

-- Every test by places, and the changes in turn.
abbrev tested : List ℕ → List ℕ → Bool
tested ns bs = laid_out ns bs and in_turn [] (first_changes ns bs (change_count ns))

-- Every test of the definition: the rules, and the buffers once more.
abbrev remade : Machine → List ℕ → List ℕ → Bool
remade m ns bs = obeys m and same (numbers_of m) ns and same (bytes_of m) bs

image_tested : (m : Machine) → obeys m ≡ true → tested (numbers_of m) (bytes_of m) ≡ true
image_tested m e =
    let r = rules_of m e in
    and_i (laid_out (numbers_of m) (bytes_of m)) _ (laid_out_by (numbers_of m) (bytes_of m) (image_laid m r)) (rw (image-changes m r) r.turns)

remade_tested : (m : Machine) (ns bs : List ℕ) → remade m ns bs ≡ true → tested ns bs ≡ true
remade_tested m ns bs e =
    let e1 = and_r (obeys m) _ e in
    let n : numbers_of m ≡ ns = same_eq (numbers_of m) ns (and_l _ _ e1) in
    let b : bytes_of m ≡ bs = same_eq (bytes_of m) bs (and_r (same (numbers_of m) ns) _ e1) in
    rw (← n, ← b) (image_tested m (and_l _ _ e))

module _ (ns bs : List ℕ) (numbers-size : length ns ≡ numbers_size) (bytes-size : length bs ≡ bytes_size) where
  module _ (laid : laid_out ns bs ≡ true) where
    parts : LaidOut ns bs
    parts = laid_out_lem ns bs laid

    -- The machine's files.
    pub laid_files : (machine_in record { numbers = ns; bytes = bs }).files ≡ first_files ns bs (first_changes ns bs (change_count ns)) (file_count ns)
    laid_files = rw (laid_machine ns bs numbers-size bytes-size parts) (unfold machine_at in refl)

    -- The last of them, or none.
    pub laid_last : (n : ℕ) → file_count ns ≡ suc n
        → last_filed (machine_in record { numbers = ns; bytes = bs }).files ≡ some (file_at ns bs (first_changes ns bs (change_count ns)) n)
    unfolding first_files
    laid_last n e =
        let cs : List Change = first_changes ns bs (change_count ns) in
        rw (laid_files, e) (last_filed_snoc (first_files ns bs cs n) (file_at ns bs cs n))

    pub laid_none : file_count ns ≡ 0 → last_filed (machine_in record { numbers = ns; bytes = bs }).files ≡ none
    unfolding first_files last_filed
    laid_none e = rw (laid_files, e)

    -- The image of the machine is the buffers again, and it obeys the rules if its changes are allowed in turn.
    pub laid_image : image (machine_in record { numbers = ns; bytes = bs }) ≡ record { numbers = ns; bytes = bs }
    laid_image = rw (laid_machine ns bs numbers-size bytes-size parts) (machine-image ns bs numbers-size bytes-size parts)

    pub laid_obeys : in_turn [] (first_changes ns bs (change_count ns)) ≡ true → obeys (machine_in record { numbers = ns; bytes = bs }) ≡ true
    laid_obeys turns = rw (laid_machine ns bs numbers-size bytes-size parts) (machine-obeys ns bs numbers-size bytes-size parts turns)

  tested_remade : tested ns bs ≡ true → remade (machine_in record { numbers = ns; bytes = bs }) ns bs ≡ true
  unfolding image
  tested_remade e =
      let m : Machine = machine_in record { numbers = ns; bytes = bs } in
      let laid = and_l (laid_out ns bs) _ e in
      let i = laid_image laid in
      let n : numbers_of m ≡ ns = ap (λ (b : Buffers). b.numbers) i in
      let b : bytes_of m ≡ bs = ap (λ (b : Buffers). b.bytes) i in
      and_i (obeys m) _ (laid_obeys laid (and_r (laid_out ns bs) _ e)) (and_i (same (numbers_of m) ns) _ (rw n (same_refl ns)) (rw b (same_refl bs)))

  pub layout_exact : read_image record { numbers = ns; bytes = bs }
      ≡ pick (laid_out ns bs and in_turn [] (first_changes ns bs (change_count ns))) (some (machine_in record { numbers = ns; bytes = bs })) none
  unfolding read_image
  layout_exact =
      let m : Machine = machine_in record { numbers = ns; bytes = bs } in
      ap (λ (t : Bool). pick t (some m) none) (each_way (remade m ns bs) (tested ns bs) (remade_tested m ns bs) tested_remade)

  -- The answers, test by test.
  module _ (laid : laid_out ns bs ≡ true) where
    pub read-valid : in_turn [] (first_changes ns bs (change_count ns)) ≡ true → read_image record { numbers = ns; bytes = bs } ≡ some (machine_in record { numbers = ns; bytes = bs })
    unfolding pick ◌and◌
    read-valid turns = rw (layout_exact, laid, turns)

    pub read_not_in_turn : in_turn [] (first_changes ns bs (change_count ns)) ≡ false → read_image record { numbers = ns; bytes = bs } ≡ none
    unfolding pick ◌and◌
    read_not_in_turn turns = rw (layout_exact, laid, turns)

  pub read_not_laid : laid_out ns bs ≡ false → read_image record { numbers = ns; bytes = bs } ≡ none
  unfolding pick ◌and◌
  read_not_laid laid = rw (layout_exact, laid)
