-- What the rows and slots of the standing files say of the machine's files.
use mathlib.Core.Path.{◌≡◌, refl, sym, ap, ◌∙◌}
use mathlib.Core.Bool.{Bool, true, false, ◌||◌}
use mathlib.Core.List.{List, []}
use mathlib.Core.Option.{some}
use Prim.Native.Nat.{ℕ, suc, ◌+◌, ◌-◌, ◌≤◌, ◌<◌}
use native.Mathlib.Omega.{arith}
use lib.ListN.{length, take, drop}
use Rattle.std.specs.Prelude.{Option as Found, Some, None, SomeIff, MatchOption}
use Rattle.names.specs.Bytes.{any}
use Rattle.names.specs.Date.{not_later}
use Rattle.names.specs.Name.{long_name_most, is_long_name}
use Rattle.names.specs.Order.{same}
use Rattle.names.specs.Pick.{◌and◌}
use Rattle.names.proofs.Tests.{and_l, or_true, or_false}
use Rattle.store.specs.Image.{study_length, version_length}
use Rattle.store.specs.code.Layout.{file_count, change_count, oid_at, date_at, laid_out}
use Rattle.store.specs.Machine.{Filed, in_turn, standing, last_filed, files_most}
use Rattle.store.specs.code.Rows.{first_changes}
use Rattle.store.specs.code.Withdrawal.{Valid}
use Rattle.store.specs.code.With.{numbers_with}
use Rattle.store.proofs.Lists.FirstPlaces.{from_before}
use Rattle.store.proofs.Layouts.FileFits.{file-fits-at}
use Rattle.store.proofs.Layouts.FileReads.{part_of}
use Rattle.store.proofs.Layouts.FileRules.{standing-more}
use Rattle.store.proofs.Layouts.FilesLaid.{file_at, first_files, first_files_length}
use Rattle.store.proofs.Layouts.BuffersLaid.{laid_out_lem}
use Rattle.store.proofs.Layouts.LayoutExact.{layout_exact, laid_files, laid_last, laid_none}
use Rattle.store.proofs.Images.Rules.{rules_of, long-name-length}
use Rattle.store.proofs.Images.ImageLaws.{picked_some}
use Rattle.store.specs.code.Standing.{is_last, not_before, FileStands}
use Rattle.store.specs.code.Pending.{machine_of, Taking}
use Rattle.store.specs.declared.pending.Pending.{Pending}

-- The first files by places.
unfoldable pub files_to : List ℕ → List ℕ → ℕ → List Filed
files_to ns bs n = first_files ns bs (first_changes ns bs (change_count ns)) n

files_to_standing : (oid ns bs : List ℕ) (n : ℕ) → standing oid (files_to ns bs (suc n)) ≡ (standing oid (files_to ns bs n) || same oid (oid_at ns bs n))
unfolding files_to first_files file_at
files_to_standing oid ns bs n =
    standing-more oid (first_files ns bs (first_changes ns bs (change_count ns)) n) (file_at ns bs (first_changes ns bs (change_count ns)) n)

-- A valid image is laid out.
module _ (ns bs : List ℕ) (v : Valid ns bs) where
  valid_laid : laid_out ns bs ≡ true
  valid_laid =
      and_l _ _
      (picked_some (laid_out ns bs and in_turn [] (first_changes ns bs (change_count ns))) (machine_of ns bs) (machine_of ns bs) (sym (layout_exact ns bs v.numbers v.bytes) ∙ v.read)).0

  valid-files : (machine_of ns bs).files ≡ files_to ns bs (file_count ns)
  unfolding files_to
  valid-files = laid_files ns bs v.numbers v.bytes valid_laid

  pub valid-count : file_count ns ≡ length (machine_of ns bs).files
  unfolding files_to
  valid-count = sym (rw valid-files (first_files_length ns bs (first_changes ns bs (change_count ns)) (file_count ns)))

  pub valid-few : file_count ns ≤ files_most
  valid-few = (laid_out_lem ns bs valid_laid).few-files

  pub file-stands : (f : ℕ) → f < file_count ns → FileStands ns bs f
  file-stands f h =
      let few = valid-few in
      let fits = file-fits-at ns bs (file_count ns) f (laid_out_lem ns bs valid_laid).files h in
      record { numbers = v.numbers; bytes = v.bytes; few = omega arith; oid = fits.slot.short }

  -- A FileOID is looked for among the files, the last first.
  pub standing-all : (oid : List ℕ) → standing oid (machine_of ns bs).files ≡ standing oid (files_to ns bs (file_count ns))
  standing-all oid = rw valid-files

  -- The last file.
  last_is : 0 < file_count ns → last_filed (machine_of ns bs).files ≡ some (file_at ns bs (first_changes ns bs (change_count ns)) (file_count ns - 1))
  last_is h = let e : file_count ns ≡ suc (file_count ns - 1) = omega arith in laid_last ns bs v.numbers v.bytes valid_laid (file_count ns - 1) e

  pub none_last : (oid : List ℕ) → file_count ns ≡ 0 → false ≡ is_last oid (last_filed (machine_of ns bs).files)
  unfolding is_last
  none_last oid e = rw (laid_none ns bs v.numbers v.bytes valid_laid e)

  pub last_stands : (f : ℕ) → 0 < file_count ns → f ≡ file_count ns - 1 → FileStands ns bs f
  last_stands f h e = file-stands f (omega arith)

  pub last_compared : (oid : List ℕ) (f : ℕ) (t : Bool) → 0 < file_count ns → f ≡ file_count ns - 1 → t ≡ same oid (oid_at ns bs f)
      → t ≡ is_last oid (last_filed (machine_of ns bs).files)
  unfolding is_last file_at
  last_compared oid f t h p e = e ∙ rw (p, last_is h)

  pub last_few : (f : ℕ) → 0 < file_count ns → f ≡ file_count ns - 1 → f < files_most
  last_few f h e = let few = valid-few in omega arith

  pub none_before : (date : List ℕ) → file_count ns ≡ 0 → true ≡ not_before (last_filed (machine_of ns bs).files) date
  unfolding not_before
  none_before date e = rw (laid_none ns bs v.numbers v.bytes valid_laid e)

  pub last_date : (date : List ℕ) (f : ℕ) (t : Bool) → 0 < file_count ns → f ≡ file_count ns - 1 → t ≡ not_later (date_at bs f) date
      → t ≡ not_before (last_filed (machine_of ns bs).files) date
  unfolding not_before file_at
  last_date date f t h p e = e ∙ rw (p, last_is h)

  -- By the place of the last one, if there is one: what a closure told of it.
  pub last_oid_told : (oid : List ℕ) (o : Found ℕ) (t : Bool) {Q : ℕ → Type 0} → SomeIff o (0 < file_count ns) (file_count ns - 1)
      → MatchOption o (t ≡ false) Q → ((f : ℕ) → Q f → t ≡ same oid (oid_at ns bs f)) → t ≡ is_last oid (last_filed (machine_of ns bs).files)
  last_oid_told oid None t h e q = e ∙ none_last oid (omega arith)
  last_oid_told oid (Some f) t (low, p) e q = last_compared oid f t low p (q f e)

  pub last_date_told : (date : List ℕ) (o : Found ℕ) (t : Bool) {Q : ℕ → Type 0} → SomeIff o (0 < file_count ns) (file_count ns - 1)
      → MatchOption o (t ≡ true) Q → ((f : ℕ) → Q f → t ≡ not_later (date_at bs f) date) → t ≡ not_before (last_filed (machine_of ns bs).files) date
  last_date_told date None t h e q = e ∙ none_before date (omega arith)
  last_date_told date (Some f) t (low, p) e q = last_date date f t low p (q f e)

-- The loop over the files, down from the last.
module _ (oid ns bs : List ℕ) (fs : List Filed) (n : ℕ) (inv : standing oid fs ≡ standing oid (files_to ns bs n)) where
  standing_step : 0 < n → standing oid (files_to ns bs n) ≡ (standing oid (files_to ns bs (n - 1)) || same oid (oid_at ns bs (n - 1)))
  standing_step h =
      from_before (λ n m. standing oid (files_to ns bs n) ≡ (standing oid (files_to ns bs m) || same oid (oid_at ns bs m))) (files_to_standing oid ns bs) n h

  pub standing_found : 0 < n → (t : Bool) → t ≡ same oid (oid_at ns bs (n - 1)) → t ≡ true → true ≡ standing oid fs
  standing_found h t e f = sym (inv ∙ standing_step h ∙ rw (← e, f) (or_true (standing oid (files_to ns bs (n - 1)))))

  pub standing_on : 0 < n → (t : Bool) → t ≡ same oid (oid_at ns bs (n - 1)) → t ≡ false → standing oid fs ≡ standing oid (files_to ns bs (n - 1))
  standing_on h t e f = inv ∙ standing_step h ∙ rw (← e, f) (or_false (standing oid (files_to ns bs (n - 1))))

  pub standing-end : n ≤ 0 → false ≡ standing oid fs
  unfolding files_to first_files standing any
  standing-end h = let z : n ≡ 0 = omega arith in sym (inv ∙ rw z)

pub ruleset standing-loop = (standing_found, standing_on, standing-end)

-- The study and the version, while a file is taken.
module _ (ns bs index : List ℕ) (t : Pending) (w : Taking ns bs index t) where
  study-length : study_length ns ≡ length (machine_of ns bs).study
  unfolding numbers_with
  study-length = ap study_length w.loaded.holds.numbers

  version-length : version_length ns ≡ length (machine_of ns bs).version
  unfolding numbers_with
  version-length = ap version_length w.loaded.holds.numbers

  name-inside : (name : List ℕ) (n at : ℕ) → is_long_name name ≡ true → n ≡ length name → at ≤ long_name_most → at + n ≤ length bs
  name-inside name n at named size low =
      let short = long-name-length name named in
      let all = w.loaded.bytes-size in
      omega arith

  pub study-inside : 0 + study_length ns ≤ length bs
  study-inside = name-inside (machine_of ns bs).study (study_length ns) 0 (rules_of (machine_of ns bs) w.loaded.rules).study study-length (omega arith)

  pub version-inside : long_name_most + version_length ns ≤ length bs
  version-inside = name-inside (machine_of ns bs).version (version_length ns) long_name_most (rules_of (machine_of ns bs) w.loaded.rules).version version-length (omega arith)

pub text_compared : (bs text : List ℕ) (at n : ℕ) (t : Bool) → t ≡ same (take (at + n - at) (drop at bs)) text → t ≡ same (take n (drop at bs)) text
text_compared bs text at n t e = e ∙ rw (part_of bs at n)
