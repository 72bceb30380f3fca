-- The body of a typed item and its closing tag: what follows is no longer than what was there, a refusal has its number, and the bytes are those of a value.
use mathlib.Core.Path.{◌≡◌, refl, sym, ◌∙◌, ap}
use mathlib.Core.Bool.{Bool, true, false}
use mathlib.Core.List.{List, [], ◌∷◌}
use mathlib.Core.Option.{Option, none, some}
use Prim.Native.Nat.{ℕ, zero, suc, ◌-◌, ◌≤◌, ◌<◌}
use native.Mathlib.Omega.{arith}
use lib.Dec.{eqb, lit<}
use lib.ListN.{length}
use Rattle.names.specs.Bytes.{bytes, ch, all}
use Rattle.names.specs.Class.{is_value_byte}
use Rattle.names.specs.Order.{begins}
use Rattle.names.specs.Pick.{pick, ◌and◌}
use Rattle.names.specs.Scan.{front}
use Rattle.names.specs.Text.{in_value, Written, written, escapes, entities, first_of, piece_at, in_front, decoded_by, decode_from, decode}
use Rattle.names.proofs.Tests.{and_l, and_r, and_i, all_implied}
use Rattle.store.specs.Answer.{refused, accepted}
use Rattle.store.proofs.Calls.Answers.{refused-accepted, accepted-same, bind_accepted, then_accepted, present-accepted}
use Rattle.store.proofs.Calls.Refusals.{Named, named, taken, named_bind, named_then, named-unless, named-present, not_zero}
use Rattle.reader.specs.Tag.{Read, Tag, opens, closes, strip, up_to, cut_by, cut, body_by, text_body, closes_by, content}
use Rattle.reader.proofs.TagRefusals.{up_to_named, behind-named}
use Rattle.reader.proofs.TagLengths.{strip-length, up_to_shorter, behind-length}

-- What follows.
pub cut-length : (w s : List ℕ) (c : Read (List ℕ)) → cut w s ≡ some c → length c.rest ≤ length s
unfolding cut cut_by
cut-length w [] c e = let z : ◌≡◌ {A = ℕ} 0 1 = cc in absurd (omega arith)
cut-length w (x ∷ s) c e = go (strip w (x ∷ s)) (cut w s) refl (cut-length w s) e
  where
    go : (o : Option (List ℕ)) (m : Option (Read (List ℕ))) → strip w (x ∷ s) ≡ o → ((d : Read (List ℕ)) → m ≡ some d → length d.rest ≤ length s)
        → cut_by o x m ≡ some c → length c.rest ≤ suc (length s)
    go (some t) m p ih f = let l = strip-length w (x ∷ s) t p in let z : t ≡ c.rest = cc in rw (← z) (omega arith)
    go none none p ih f = let z : ◌≡◌ {A = ℕ} 0 1 = cc in absurd (omega arith)
    go none (some d) p ih f = let l = ih d refl in let z : d.rest ≡ c.rest = cc in rw (← z) (omega arith)

module _ (t s : List ℕ) (b : Read (List ℕ)) (e : body_by (some t) s ≡ accepted b) where
  -- The section that a body is, and the `<` behind it.
  section : (c : Read (List ℕ)) × (cut (bytes "]]>") t ≡ some c) × (all is_value_byte c.got ≡ true) × (strip (bytes "<") c.rest ≡ some b.rest) × (c.got ≡ b.got)
  unfolding body_by
  section =
      let x = bind_accepted _ _ b e in
      let y = bind_accepted _ _ b x.2 in
      let z = then_accepted _ 4 _ y.0 y.1 in
      let v = accepted-same y.2 in
      (x.0, present-accepted _ 4 x.0 x.1, z.0, present-accepted _ 4 y.0 z.1 ∙ ap (λ (r : Read (List ℕ)). some r.rest) v, ap (λ (r : Read (List ℕ)). r.got) v)

body_shorter : (o : Option (List ℕ)) (s : List ℕ) (b : Read (List ℕ)) → strip (bytes "<![CDATA[") s ≡ o → body_by o s ≡ accepted b → length b.rest < length s
unfolding body_by
body_shorter none s b p e = up_to_shorter (ch "<") s b (then_accepted _ 4 _ b e).1
body_shorter (some t) s b p e =
    let c = section t s b e in
    let front = strip-length (bytes "<![CDATA[") s t p in
    let text = cut-length (bytes "]]>") t c.0 c.1 in
    let less = strip-length (bytes "<") c.0.rest b.rest c.3 in
    omega arith

pub text_body_shorter : (s : List ℕ) (b : Read (List ℕ)) → text_body s ≡ accepted b → length b.rest < length s
unfolding text_body
text_body_shorter s b e = body_shorter (strip (bytes "<![CDATA[") s) s b refl e

closes-same : (n : List ℕ) (t : Tag) (r q : List ℕ) → closes_by n t r ≡ accepted q → r ≡ q
unfolding closes_by
closes-same n (opens o as' self) r q e = absurd (refused-accepted 5 q e)
closes-same n (closes o) r q e = accepted-same (then_accepted _ 4 _ q e).1

-- An element that is not self-closing: its body, and what follows its closing tag.
module _ (n s : List ℕ) (c : Read (List ℕ)) (e : content false n s ≡ accepted c) where
  held : (b : Read (List ℕ)) × (text_body s ≡ accepted b) × (b.got ≡ c.got) × (length c.rest ≤ length b.rest)
  unfolding content
  held =
      let b = bind_accepted _ _ c e in
      let t = bind_accepted _ _ c b.2 in
      let r = bind_accepted _ _ c t.2 in
      let v = accepted-same r.2 in
      let l = behind-length b.0.rest t.0 t.1 in
      let k : length t.0.rest ≡ length c.rest = ap length (closes-same n t.0.got t.0.rest r.0 r.1 ∙ ap (λ (r : Read (List ℕ)). r.rest) v) in
      (b.0, b.1, ap (λ (r : Read (List ℕ)). r.got) v, omega arith)

pub content_shorter : (self : Bool) (n s : List ℕ) (c : Read (List ℕ)) → content self n s ≡ accepted c → length c.rest ≤ length s
unfolding content
content_shorter true n s c e = rw (← accepted-same e) (omega arith)
content_shorter false n s c e = let h = held n s c e in let k = text_body_shorter s h.0 h.1 in let l = h.3 in omega arith

-- Refusals.
body-named : (o : Option (List ℕ)) (s : List ℕ) → Named (body_by o s)
unfolding body_by
body-named (some t) s =
    named_bind _ _ (named-present _ 4 (lit< tt)) (λ c. named_bind _ _ (named_then _ _ (named-unless _ 4 (lit< tt)) (named-present _ 4 (lit< tt))) (λ r. taken))
body-named none s = named_then _ _ (named-unless _ 4 (lit< tt)) (up_to_named (ch "<") s)

closes-named : (n : List ℕ) (t : Tag) (r : List ℕ) → Named (closes_by n t r)
unfolding closes_by
closes-named n (opens o as' self) r = named (lit< tt)
closes-named n (closes o) r = named_then _ _ (named-unless _ 4 (lit< tt)) taken

pub named-content : (self : Bool) (n s : List ℕ) → Named (content self n s)
unfolding content text_body
named-content true n s = taken
named-content false n s =
    named_bind _ _ (body-named _ s) (λ b. named_bind _ _ (behind-named b.rest) (λ t. named_bind _ _ (closes-named n t.got t.rest) (λ r. taken)))

pub content-named : (self : Bool) (n s : List ℕ) (k : ℕ) → content self n s ≡ refused k → 1 ≤ k
content-named self n s k e = let h = not_zero (content self n s) k (named-content self n s) e in omega arith

-- Bytes.
front_passes : (p : ℕ → Bool) (s : List ℕ) → all p (front p s) ≡ true
unfolding front all pick
front_passes p [] = refl
front_passes p (c ∷ s) = go (p c) refl (front_passes p s)
  where
    go : (b : Bool) → p c ≡ b → all p (front p s) ≡ true → all p (pick b (c ∷ front p s) []) ≡ true
    go true e ih = and_i (p c) (all p (front p s)) e ih
    go false e ih = refl

first_byte_lem : (es : List Written) (s : List ℕ) (w : Written) → all (λ x. is_value_byte x.byte) es ≡ true → first_of es s ≡ some w → is_value_byte w.byte ≡ true
unfolding first_of all pick
first_byte_lem [] s w a e = let z : ◌≡◌ {A = ℕ} 0 1 = cc in absurd (omega arith)
first_byte_lem (x ∷ es) s w a e = go (begins eqb x.text s) (first_byte_lem es s w (and_r (is_value_byte x.byte) _ a)) e
  where
    go : (b : Bool) → (first_of es s ≡ some w → is_value_byte w.byte ≡ true) → pick b (some x) (first_of es s) ≡ some w → is_value_byte w.byte ≡ true
    go true ih f = let z : x ≡ w = cc in rw (← z) (and_l (is_value_byte x.byte) _ a)
    go false ih f = ih f

piece_value : (c : ℕ) (s : List ℕ) (w : Written) → is_value_byte c ≡ true → piece_at c s ≡ some w → is_value_byte w.byte ≡ true
unfolding piece_at pick
piece_value c s w a e = go (eqb c (ch "&")) e
  where
    go : (b : Bool) → pick b (first_of entities (c ∷ s)) (some (written (c ∷ []) c)) ≡ some w → is_value_byte w.byte ≡ true
    go true f = first_byte_lem entities (c ∷ s) w (unfold all entities escapes is_value_byte ◌and◌ in refl) f
    go false f = let z : c ≡ w.byte = cc in rw (← z) a

-- What bytes of a value stand for is such bytes again.
decoded-values : (n : ℕ) (l v : List ℕ) → all is_value_byte l ≡ true → decode_from n l ≡ some v → all is_value_byte v ≡ true
unfolding all decode_from decoded_by in_front
decoded-values n [] v a e = let z : [] ≡ v = cc in rw (← z)
decoded-values (suc n) (c ∷ l) v a e = decoded-values n l v (and_r (is_value_byte c) _ a) e
decoded-values zero (c ∷ l) v a e = go (piece_at c l) refl (λ k u. decoded-values k l u (and_r (is_value_byte c) _ a)) e
  where
    go : (o : Option Written) → piece_at c l ≡ o → ((k : ℕ) (u : List ℕ) → decode_from k l ≡ some u → all is_value_byte u ≡ true) → decoded_by o (λ k. decode_from k l) ≡ some v
        → all is_value_byte v ≡ true
    go none p ih f = let z : ◌≡◌ {A = ℕ} 0 1 = cc in absurd (omega arith)
    go (some w) p ih f = by (decode_from (length w.text - 1) l) refl f
      where
        by : (o : Option (List ℕ)) → decode_from (length w.text - 1) l ≡ o → in_front w.byte o ≡ some v → all is_value_byte v ≡ true
        by none q g = let z : ◌≡◌ {A = ℕ} 0 1 = cc in absurd (omega arith)
        by (some u) q g =
            let z : w.byte ∷ u ≡ v = cc in
            rw (← z) (and_i (is_value_byte w.byte) (all is_value_byte u) (piece_value c l w (and_l (is_value_byte c) _ a) p) (ih _ u q))

pub decode-values : (l v : List ℕ) → all is_value_byte l ≡ true → decode l ≡ some v → all is_value_byte v ≡ true
unfolding decode
decode-values l v a e = decoded-values 0 l v a e

up_to_values : (q : ℕ) (s : List ℕ) (v : Read (List ℕ)) → up_to q s ≡ accepted v → all is_value_byte v.got ≡ true
unfolding up_to
up_to_values q s v e =
    let t = bind_accepted _ _ v e in
    let d = bind_accepted _ _ v t.2 in
    let l = all_implied (in_value q) is_value_byte (λ c. unfold in_value in and_l (is_value_byte c) _) (front (in_value q) s) (front_passes (in_value q) s) in
    let k = decode-values (front (in_value q) s) d.0 l (present-accepted _ 4 d.0 d.1) in
    ap (λ (r : Read (List ℕ)). all is_value_byte r.got) (sym (accepted-same d.2)) ∙ k

body-values : (o : Option (List ℕ)) (s : List ℕ) (b : Read (List ℕ)) → body_by o s ≡ accepted b → all is_value_byte b.got ≡ true
unfolding body_by
body-values none s b e = up_to_values (ch "<") s b (then_accepted _ 4 _ b e).1
body-values (some t) s b e = let c = section t s b e in ap (λ l. all is_value_byte l) (sym c.4) ∙ c.2

pub content-values : (self : Bool) (n s : List ℕ) (c : Read (List ℕ)) → content self n s ≡ accepted c → all is_value_byte c.got ≡ true
unfolding content text_body
content-values true n s c e = ap (λ (r : Read (List ℕ)). all is_value_byte r.got) (sym (accepted-same e)) ∙ unfold all in refl
content-values false n s c e = let h = held n s c e in ap (λ l. all is_value_byte l) (sym h.2) ∙ body-values _ s h.0 h.1
