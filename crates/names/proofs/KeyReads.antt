-- A key read from packed names, name by name.
use mathlib.Core.Path.{◌≡◌, refl, sym, ◌∙◌, ap}
use mathlib.Core.List.{List, [], ◌∷◌, ◌++◌, append-nil}
use mathlib.Core.Option.{Option, none, some}
use Prim.Native.Nat.{ℕ, suc, ◌+◌, ◌-◌, ◌*◌, ◌≤◌, ◌<◌}
use native.Mathlib.Numerals.{add-one}
use native.Mathlib.Omega.{arith}
use lib.Dec.{leb}
use lib.ListN.{length, get_or, take, drop, set, length-drop, replicate}
use lib.Seq.{append_snoc, drop-drop, length-take-le, take-suc-set, drop-set-lt}
use borrow.Author.Tests.{le-leb, lt-leb}
use Rattle.std.specs.Prelude.{None}
use Rattle.names.specs.Name.{name_most}
use Rattle.names.specs.code.Wrote.{Wrote}
use Rattle.names.specs.Pick.{pick, ◌and◌}
use Rattle.names.specs.Key.{Key, Name, names_used}
use Rattle.names.specs.code.HeldKey.{key_of, held_from, KeyRead, name_before, read_key, NameThere, WholeName, KeyFound, KeyReadAt}
use Rattle.names.proofs.Walk.{drop_here, drop_past, drop-replicate}
use Rattle.names.proofs.OverwriteLaws.{overwrite-length}
use Rattle.names.proofs.KeyHeld.{held-take, held-key, held_stored, held-length}

-- What is read behind the names k.
unfoldable pub behind : Key → Option KeyRead → Option KeyRead
behind k none = none
behind k (some r) = some record { key = k ++ r.key; rest = r.rest }

behind-before : (k : Key) (n : Name) (o : Option KeyRead) → behind k (name_before n o) ≡ behind (k ++ (n ∷ [])) o
unfolding behind name_before
behind-before k n none = refl
behind-before k n (some r) = rw append_snoc

behind_none : (o : Option KeyRead) → o ≡ behind [] o
unfolding behind
behind_none none = refl
behind_none (some r) = refl

-- One name more in the arrays.
held_next : (names lens : List ℕ) (i : ℕ) (name out : List ℕ) (r : ℕ) → Wrote names (name_most * i) name out r → length names ≡ 128 → length lens ≡ 8 → i < 8 → length name ≤ name_most
    → held_from (i + 1) 0 out (set lens i (length name)) ≡ held_from i 0 names lens ++ (name ∷ [])
held_next names lens i name out r w a b h k =
    sym (held-take (i + 1) 8 0 out (set lens i (length name)) (omega arith))
    ∙ rw (held_stored names lens i name out r w a b h k, add-one, take-suc-set (held_from 8 0 names lens) i name (rw held-length h), held-take i 8 0 names lens (omega arith))

-- The next name, where it is whole.
module _ (s : List ℕ) (e : ℕ) where
  here : (n : ℕ) → e < length s → read_key (suc n) (drop e s)
      ≡ pick (leb (get_or s e 0) name_most and leb (get_or s e 0) (length (drop (e + 1) s))) (name_before (take (get_or s e 0) (drop (e + 1) s)) (read_key n (drop (e + 1 + get_or s e 0) s))) none
  unfolding read_key
  here n b = rw (drop_here s e b, drop-drop)

  pub name_ended : length s ≤ e → (n : ℕ) → read_key (suc n) (drop e s) ≡ none
  unfolding read_key
  name_ended b n = rw (drop_past s e b)

  pub name-long : e < length s → name_most < get_or s e 0 → (n : ℕ) → read_key (suc n) (drop e s) ≡ none
  unfolding pick ◌and◌
  name-long b l n = here n b ∙ rw (lt-leb (get_or s e 0) name_most l)

  pub name-short : e < length s → get_or s e 0 ≤ name_most → length s - (e + 1) < get_or s e 0 → (n : ℕ) → read_key (suc n) (drop e s) ≡ none
  unfolding pick ◌and◌
  name-short b l m n = here n b ∙ rw (le-leb (get_or s e 0) name_most l, lt-leb (get_or s e 0) (length (drop (e + 1) s)) (rw length-drop m))

-- K is what is to be read, n names; i of them are in the arrays, the next stands at e.
module _ (K : Option KeyRead) (s : List ℕ) (e : ℕ) (names lens : List ℕ) (n i : ℕ) (inv : K ≡ behind (held_from i 0 names lens) (read_key (n - i) (drop e s))) (h : i < n) where
  one_more_lem : n - i ≡ suc (n - (i + 1))
  one_more_lem = omega arith

  read-missing : ((m : ℕ) → read_key (suc m) (drop e s) ≡ none) → K ≡ none
  unfolding behind
  read-missing f = inv ∙ rw (one_more_lem, f (n - (i + 1)))

  module _ (b : ℕ) (x : NameThere s e b) where
    pub read_next : (out : List ℕ) (r : ℕ) → Wrote names (name_most * i) (take (b - (e + 1)) (drop (e + 1) s)) out r
        → length names ≡ 128 → length lens ≡ 8 → n ≤ 8
        → K ≡ behind (held_from (i + 1) 0 out (set lens i (b - (e + 1)))) (read_key (n - (i + 1)) (drop b s))
    unfolding pick ◌and◌
    read_next out r w a c t =
        let l = x.few in
        let m = x.whole in
        let f = x.is in
        let z : b - (e + 1) ≡ get_or s e 0 = omega arith in
        let name : Name = take (get_or s e 0) (drop (e + 1) s) in
        let size : length name ≡ get_or s e 0 = length-take-le (get_or s e 0) (drop (e + 1) s) (rw length-drop m) in
        let v : Wrote names (name_most * i) name out r = rw z at w in
        let grown : held_from (i + 1) 0 out (set lens i (get_or s e 0)) ≡ held_from i 0 names lens ++ (name ∷ []) =
        ap (λ (x : ℕ). held_from (i + 1) 0 out (set lens i x)) (sym size) ∙ held_next names lens i name out r v a c (omega arith) (rw size l) in
        inv
        ∙ rw (z, one_more_lem, here s e (n - (i + 1)) x.inside, f, le-leb (get_or s e 0) name_most l, le-leb (get_or s e 0) (length (drop (e + 1) s)) (rw length-drop m))
        (behind-before (held_from i 0 names lens) name (read_key (n - (i + 1)) (drop (e + 1 + get_or s e 0) s)) ∙ rw grown)

-- The answers.
module _ (s : List ℕ) (at d n e i : ℕ) (names lens : List ℕ) (inv : read_key n (drop at s) ≡ behind (held_from i 0 names lens) (read_key (n - i) (drop e s))) (u : n ≡ names_used d)
  where
    pub read-stops : i < n → WholeName s e None → KeyReadAt s at d None
    read-stops h x = rw (← u) (read-missing _ s e names lens n i inv h x)

    pub read_all : n ≡ i → e ≤ length s → drop i lens ≡ replicate (8 - i) 0 → KeyFound s at d record { depth = d; names = names; lens = lens } e
    unfolding read_key behind
    read_all q k l =
        let z : n - i ≡ 0 = omega arith in
        let key : key_of record { depth = d; names = names; lens = lens } ≡ held_from i 0 names lens = held-key record { depth = d; names = names; lens = lens } n u ∙ rw q in
        record { read = rw (key, ← u, inv, z, append-nil); depth = refl; beyond = rw (← u, q) l; end = k }

-- The lengths of the names that are not read yet are 0.
pub unread_fewer : (lens : List ℕ) (i l : ℕ) → drop i lens ≡ replicate (8 - i) 0 → drop (i + 1) (set lens i l) ≡ replicate (8 - (i + 1)) 0
unread_fewer lens i l e =
    let w : 8 - i - 1 ≡ 8 - (i + 1) = omega arith in
    drop-set-lt (i + 1) lens i l (omega arith) ∙ sym (drop-drop 1 i lens) ∙ ap (drop 1) e ∙ drop-replicate 1 (8 - i) 0 ∙ rw w

-- None is read yet.
pub read_none : (n : ℕ) (s names lens : List ℕ) → read_key n s ≡ behind (held_from 0 0 names lens) (read_key (n - 0) s)
unfolding held_from
read_none n s names lens = let z : n - 0 ≡ n = omega arith in rw z (behind_none (read_key n s))

-- A name that is there ends in the text.
pub there-high : {s : List ℕ} {e b : ℕ} → NameThere s e b → b ≤ length s
there-high x = let f = x.is in let m = x.whole in let h = x.inside in omega arith

pub kept-length : {d : List ℕ} {n : ℕ} {s out : List ℕ} {r m : ℕ} → Wrote d n s out r → length d ≡ m → length out ≡ m
kept-length {d} {n} {s} w a = ap length w.text ∙ overwrite-length d n s w.room ∙ a
