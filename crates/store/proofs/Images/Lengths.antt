-- An image has the lengths of the store's buffers, so a store is opened as the machine that has it for its image.
use mathlib.Core.Path.{◌≡◌, refl}
use mathlib.Core.Bool.{true}
use mathlib.Core.List.{List, ◌++◌}
use Prim.Native.Nat.{ℕ, ◌+◌, ◌*◌}
use lib.ListN.{length, length-append}
use borrow.Author.Tests.{eq-eqb}
use Rattle.names.specs.Name.{long_name_most}
use Rattle.names.specs.Pick.{◌and◌}
use Rattle.store.specs.Answer.{accepted, ◌>>=◌, ◌>>◌, unless, present}
use Rattle.store.specs.Calls.{right_lengths, opened}
use Rattle.store.specs.Machine.{Machine, changes_of, obeys, files_most, changes_most, bytes_most}
use Rattle.store.specs.Image.{contents_size, file_row, change_row, file_slot, numbers_size, bytes_size, numbers_of, bytes_of, image, contents_of}
use Rattle.store.proofs.Images.ImageLaws.{read_image-image}
use Rattle.store.proofs.Images.Arrangement.{file_rows_part, change_rows_part, names_part, slots_part, change_bytes_part, file_rows_part-length, change_rows_part-length, names_part-length, slots_part-length, change_bytes_part-length}
use Rattle.store.proofs.Images.Rules.{rules_of}

length_three : (a b c : List ℕ) (i j k : ℕ) → length a ≡ i → length b ≡ j → length c ≡ k → length (a ++ b ++ c) ≡ i + j + k
length_three a b c i j k p q r = rw (length-append (a ++ b) c, length-append a b, p, q, r)

pub image_lengths : (m : Machine) → obeys m ≡ true → (length (numbers_of m) ≡ numbers_size) × (length (bytes_of m) ≡ bytes_size)
unfolding numbers_of bytes_of
image_lengths m e =
    let r = rules_of m e in
    let fs = m.files in
    let cs = changes_of fs in (
      length_three (contents_of m) (file_rows_part fs) (change_rows_part cs) contents_size (files_most * file_row) (changes_most * change_row)
          refl (file_rows_part-length fs r.few-files) (change_rows_part-length cs r.few-changes),
      length_three (names_part m.study m.version) (slots_part fs) (change_bytes_part cs) (long_name_most + long_name_most) (files_most * file_slot) bytes_most
          (names_part-length m.study m.version r.study r.version) (slots_part-length fs r.few-files r.filed) (change_bytes_part-length cs r.few_bytes),
    )

pub image-right_lengths : (m : Machine) → obeys m ≡ true → right_lengths (image m) ≡ true
unfolding right_lengths image ◌and◌
image-right_lengths m e =
    let l = image_lengths m e in
    rw (eq-eqb (length (numbers_of m)) numbers_size l.0, eq-eqb (length (bytes_of m)) bytes_size l.1)

pub opened-image : (m : Machine) → obeys m ≡ true → opened (image m) ≡ accepted m
unfolding opened unless present ◌>>◌ ◌>>=◌
opened-image m e = rw (image-right_lengths m e, read_image-image m e)
