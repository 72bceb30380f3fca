-- Every number of an image is at most the most change bytes, so it fits an unsigned 32-bit number.
use mathlib.Core.Path.{◌≡◌, refl, ap}
use mathlib.Core.Bool.{true}
use mathlib.Core.List.{List, [], ◌∷◌, ◌++◌}
use Prim.Native.Nat.{ℕ, ◌+◌, ◌*◌, ◌^◌, ◌≤◌, ◌<◌}
use native.Mathlib.Omega.{arith}
use lib.Dec.{leb}
use lib.ListN.{length, get_or, length-append}
use borrow.Author.Tests.{leb-true}
use Rattle.names.specs.Bytes.{all}
use Rattle.names.specs.Name.{long_name_most}
use Rattle.names.specs.Pick.{◌and◌}
use Rattle.names.proofs.Tests.{and_l, and_r}
use Rattle.names.proofs.KeyForm.{deepest}
use Rattle.store.specs.Change.{Kind, make, write, end, kind_number, Change, change_bytes, changes_bytes}
use Rattle.store.specs.Machine.{Filed, Machine, changes_of, is_filed, obeys, files_most, changes_most, bytes_most}
use Rattle.store.specs.Image.{file_row, change_row, change_rows, file_rows, numbers_of, contents_of, counts_of, fixed_of}
use Rattle.store.proofs.Images.Arrangement.{file_rows_part, change_rows_part}
use Rattle.store.proofs.Lists.AtMost.{at_most, all-at, most_nil, most_cons, most-append, most-padded}
use Rattle.store.proofs.Images.Rules.{rules_of, long-name-length, filed_oid}
use Rattle.store.proofs.Tables.OneChange.{changes_bytes-append}

pub kind-most : (k : Kind) → kind_number k ≤ 3
unfolding kind_number
kind-most make = omega arith
kind-most write = omega arith
kind-most end = omega arith

change_rows-most : (b start : ℕ) (cs : List Change) → 5 ≤ b → start + length (changes_bytes cs) ≤ b → at_most b (change_rows start cs)
unfolding change_rows changes_bytes
change_rows-most b start [] h k = most_nil b
change_rows-most b start (c ∷ cs) h k =
    let l : start + length (change_bytes c) + length (changes_bytes cs) ≤ b = omega (arith, length-append (change_bytes c) (changes_bytes cs)) in
    most_cons b _ _ (omega (arith, kind-most c.kind))
    (most_cons b _ _ (omega (arith, deepest c.key)) (most_cons b _ _ (omega arith) (change_rows-most b (start + length (change_bytes c)) cs h l)))

file_rows-most : (b through bytes : ℕ) (fs : List Filed) → long_name_most ≤ b → all is_filed fs ≡ true → through + length (changes_of fs) ≤ b
    → bytes + length (changes_bytes (changes_of fs)) ≤ b → at_most b (file_rows through bytes fs)
unfolding file_rows changes_of
file_rows-most b through bytes [] h e k l = most_nil b
file_rows-most b through bytes (f ∷ fs) h e k l =
    let formed : (is_filed f and all is_filed fs) ≡ true = unfold all in e in
    let cs = f.changes in
    let short = filed_oid f (and_l _ _ formed) in
    let k2 : through + length cs + length (changes_of fs) ≤ b = omega (arith, length-append cs (changes_of fs)) in
    let l2 : bytes + length (changes_bytes cs) + length (changes_bytes (changes_of fs)) ≤ b =
    omega (arith, ap length (changes_bytes-append cs (changes_of fs)), length-append (changes_bytes cs) (changes_bytes (changes_of fs))) in
    most_cons b _ _ (omega arith)
    (most_cons b _ _ (omega arith)
    (most_cons b _ _ (omega arith) (file_rows-most b (through + length cs) (bytes + length (changes_bytes cs)) fs h (and_r (is_filed f) _ formed) k2 l2)))

pub numbers-most : (m : Machine) → obeys m ≡ true → at_most bytes_most (numbers_of m)
unfolding numbers_of
numbers-most m o =
    let r = rules_of m o in
    let fs = m.files in
    let cs = changes_of fs in
    let few-files = r.few-files in
    let few-changes = r.few-changes in
    let few_bytes = r.few_bytes in
    let study = long-name-length m.study r.study in
    let version = long-name-length m.version r.version in
    let counts : at_most bytes_most (counts_of m) =
    most_cons bytes_most _ _ (omega arith) (most_cons bytes_most _ _ (omega arith) (most_cons bytes_most _ _ few_bytes (most_nil bytes_most))) in
    let fixed : at_most bytes_most (fixed_of m) = most_cons bytes_most _ _ (omega arith) (most_cons bytes_most _ _ (omega arith) (most_nil bytes_most)) in
    let contents : at_most bytes_most (contents_of m) = most-append bytes_most (counts_of m) (fixed_of m) counts fixed in
    let rows = most-padded bytes_most (files_most * file_row) (file_rows 0 0 fs) (file_rows-most bytes_most 0 0 fs (omega arith) r.filed (omega arith) (omega arith)) in
    let changes = most-padded bytes_most (changes_most * change_row) (change_rows 0 cs) (change_rows-most bytes_most 0 cs (omega arith) (omega arith)) in
    most-append bytes_most (contents_of m ++ file_rows_part fs) (change_rows_part cs) (most-append bytes_most (contents_of m) (file_rows_part fs) contents rows) changes

pub number_fits : (m : Machine) → obeys m ≡ true → (i : ℕ) → get_or (numbers_of m) i 0 < 2 ^ 32
number_fits m o i =
    let h : get_or (numbers_of m) i 0 ≤ bytes_most = leb-true _ _ (all-at (λ n. leb n bytes_most) (numbers_of m) i refl (numbers-most m o)) in
    omega arith
