-- Pieces of a text put into an output one after another, each only if it fits whole.
use mathlib.Core.Path.{◌≡◌, refl, sym, ◌∙◌}
use mathlib.Core.List.{List, [], ◌++◌, append-nil}
use Prim.Native.Nat.{ℕ, ◌≤◌}
use native.Mathlib.Nat.{add-zero}
use native.Mathlib.Omega.{arith}
use lib.ListN.{length, length-append, take-append-drop}
use Rattle.names.specs.Overwrite.{overwrite}
use Rattle.names.proofs.OverwriteLaws.{overwrite-overwrite}
use Rattle.snapshot.specs.code.Writing.{Emitted, Put}
use Rattle.snapshot.specs.declared.writer.Output.{Output}

emitted_none : (d : List ℕ) (n : ℕ) → Emitted d n [] d n
unfolding overwrite
emitted_none d n = record { next = sym (add-zero n); fits = λ _. rw (add-zero, append-nil) (sym (take-append-drop n d)); size = refl }

emitted_then : (d : List ℕ) (n : ℕ) (s t x y : List ℕ) (a b : ℕ) → Emitted d n s x a → Emitted x a t y b → Emitted d n (s ++ t) y b
emitted_then d n s t x y a b u v =
    let a-is = u.next in
    let b-is = v.next in
    let x-size = u.size in
    record {
      next = rw length-append (omega arith);
      fits = λ h.
          let first : a ≤ length d = omega arith in
          let second : b ≤ length x = omega arith in
          v.fits second ∙ rw (u.fits first, u.next) (overwrite-overwrite d n s t (omega arith));
      size = v.size ∙ u.size;
    }

-- One piece after another.
infixl 50 ◌▷◌
pub ◌▷◌ : {o p q : Output} {s t : List ℕ} → Put o p s → Put p q t → Put o q (s ++ t)
◌▷◌ {o} {p} {q} {s} {t} u v = record {
  emitted = emitted_then o.bytes.now o.at s t p.bytes.now q.bytes.now p.at q.at u.emitted v.emitted;
  lent = v.lent ∙ u.lent;
}

-- The same text, said in another way.
pub put_as : (o p : Output) (s t : List ℕ) → s ≡ t → Put o p s → Put o p t
put_as o p s t e w = rw (← e) w

-- A loop that writes: once the rest is written, the whole is.
pub record Remains (o p : Output) (whole rest : List ℕ) : Type 0 where
  pub completes : (q : Output) → Put p q rest → Put o q whole

pub remains_then : (o p q : Output) (whole s t rest : List ℕ) → rest ≡ s ++ t → Remains o p whole rest → Put p q s → Remains o q whole t
remains_then o p q whole s t rest e k w = record { completes = λ r v. k.completes r (put_as p r (s ++ t) rest (sym e) (w ▷ v)) }

pub remains_last : (o p q : Output) (whole s : List ℕ) → Remains o p whole s → Put p q s → Put o q whole
remains_last o p q whole s k w = k.completes q w

pub remains_none : (o p : Output) (whole rest : List ℕ) → rest ≡ [] → Remains o p whole rest → Put o p whole
remains_none o p whole rest e k =
    k.completes p (put_as p p [] rest (sym e) record { emitted = emitted_none p.bytes.now p.at; lent = refl })
