-- From what the writing functions did, one after another, to what their contracts say.
use mathlib.Core.Path.{◌≡◌, ◌∙◌}
use mathlib.Core.List.{List, [], ◌∷◌}
use Prim.Native.Nat.{ℕ, ◌+◌, ◌-◌, ◌*◌}
use native.Mathlib.Omega.{arith}
use lib.ListN.{length, replicate}
use Rattle.names.specs.Name.{long_name_most}
use Rattle.names.specs.Overwrite.{overwrite}
use Rattle.names.specs.code.Wrote.{Wrote}
use Rattle.store.specs.Image.{contents_size, file_row, change_row, file_slot}
use Rattle.store.specs.code.Layout.{files_at}
use Rattle.store.specs.code.Rows.{rows_at, packed_at}
use Rattle.store.specs.code.Writes.{Cleared, Closed, Unfiled}

module _ (ns bs n1 n2 b1 : List ℕ) where
  pub cleared : (c d b e : ℕ)
      → n1 ≡ overwrite ns (rows_at + change_row * c) (replicate (rows_at + change_row * d - (rows_at + change_row * c)) 0)
      → b1 ≡ overwrite bs (packed_at + b) (replicate (packed_at + e - (packed_at + b)) 0)
      → Cleared ns bs c d b e n1 b1
  cleared c d b e p q =
      let r : rows_at + change_row * d - (rows_at + change_row * c) ≡ change_row * (d - c) = omega arith in
      let s : packed_at + e - (packed_at + b) ≡ e - b = omega arith in
      record { numbers = p ∙ rw r; bytes = q ∙ rw s }

  pub closed : (b2 : List ℕ) (f : ℕ) (oid date : List ℕ) (c b r s : ℕ)
      → n1 ≡ overwrite ns 0 ((f + 1) ∷ c ∷ b ∷ [])
      → n2 ≡ overwrite n1 (contents_size + file_row * f) (length oid ∷ c ∷ b ∷ [])
      → Wrote bs (files_at + file_slot * f) oid b1 r
      → Wrote b1 (files_at + file_slot * f + long_name_most) date b2 s
      → Closed ns bs f oid date c b n2 b2
  closed b2 f oid date c b r s p q t u = record { numbers = rw (← p) q; bytes = u.text ∙ rw t.text }

  pub unfiled : (f c b : ℕ)
      → n1 ≡ overwrite ns 0 (f ∷ c ∷ b ∷ [])
      → n2 ≡ overwrite n1 (contents_size + file_row * f) (replicate (contents_size + file_row * f + file_row - (contents_size + file_row * f)) 0)
      → b1 ≡ overwrite bs (files_at + file_slot * f) (replicate (files_at + file_slot * f + file_slot - (files_at + file_slot * f)) 0)
      → Unfiled ns bs f c b n2 b1
  unfiled f c b p q t =
      let r : contents_size + file_row * f + file_row - (contents_size + file_row * f) ≡ file_row = omega arith in
      let s : files_at + file_slot * f + file_slot - (files_at + file_slot * f) ≡ file_slot = omega arith in
      record { numbers = q ∙ rw (p, r); bytes = t ∙ rw s }

pub ruleset written = (cleared, closed, unfiled)
