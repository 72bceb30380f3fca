-- The depth of a key, the names that it uses, and its parent's.
use mathlib.Core.Path.{◌≡◌, refl, sym}
use mathlib.Core.Bool.{Bool, true, false}
use Prim.Native.Nat.{◌-◌, ◌≤◌, ◌<◌}
use native.Mathlib.Omega.{arith}
use borrow.Author.Tests.{eqb-true}
use lib.Dec.{eqb}
use lib.ListN.{length}
use lib.Seq.{length-take-le}
use Rattle.names.specs.Key.{Key, depth_of, names_used, is_key}
use Rattle.names.specs.Pick.{pick}
use Rattle.names.proofs.KeyDepth.{used_grows}
use Rattle.names.proofs.KeyForm.{deepest, depth_used, key-depth as depth-within}
use Rattle.store.specs.Change.{parent_of}

-- A key of a depth has the names that the depth uses.
pub depth-names : (k : Key) → 1 ≤ depth_of k → names_used (depth_of k) ≡ length k
unfolding depth_of names_used pick
depth-names k h = go (eqb (length k) 1) (eqb (length k) 3) (eqb (length k) 5) (eqb (length k) 7) (eqb (length k) 8) refl refl refl refl refl h
  where
    go : (a b c d e : Bool) → eqb (length k) 1 ≡ a → eqb (length k) 3 ≡ b → eqb (length k) 5 ≡ c → eqb (length k) 7 ≡ d → eqb (length k) 8 ≡ e
        → 1 ≤ pick a 1 (pick b 2 (pick c 3 (pick d 4 (pick e 5 0)))) → names_used (pick a 1 (pick b 2 (pick c 3 (pick d 4 (pick e 5 0))))) ≡ length k
    go true b c d e p q r s t h = sym (eqb-true (length k) 1 p)
    go false true c d e p q r s t h = sym (eqb-true (length k) 3 q)
    go false false true d e p q r s t h = sym (eqb-true (length k) 5 r)
    go false false false true e p q r s t h = sym (eqb-true (length k) 7 s)
    go false false false false true p q r s t h = sym (eqb-true (length k) 8 t)
    go false false false false false p q r s t h = absurd (omega arith)

pub key-depth : (k : Key) → is_key k ≡ true → 1 ≤ depth_of k
key-depth k e = (depth-within k e).0

-- A parent has the names of the depth above, which are fewer, and is of that depth.
pub parent_shorter : (k : Key) → 1 ≤ depth_of k → names_used (depth_of k - 1) < length k
parent_shorter k h = let n = depth-names k h in let r = used_grows (depth_of k - 1) (depth_of k) (omega arith) (deepest k) in omega arith

pub parent-length : (k : Key) → 1 ≤ depth_of k → length (parent_of k) ≡ names_used (depth_of k - 1)
unfolding parent_of
parent-length k h = let l = parent_shorter k h in length-take-le (names_used (depth_of k - 1)) k (omega arith)

pub parent-depth : (k : Key) → 1 < depth_of k → depth_of (parent_of k) ≡ depth_of k - 1
parent-depth k h = depth_used (depth_of k - 1) (parent_of k) (omega arith) (let m = deepest k in omega arith) (parent-length k (omega arith))
