-- Written tags are read back one by one: reading them is judging them.
use mathlib.Core.Path.{◌≡◌, refl, ap, ◌∙◌}
use mathlib.Core.Bool.{Bool, true, false}
use mathlib.Core.List.{List, [], ◌∷◌, ◌++◌}
use Prim.Native.Nat.{ℕ, zero, suc, ◌+◌, ◌<◌, ◌≤◌}
use native.Mathlib.Nat.{suc-add}
use native.Mathlib.Omega.{arith}
use lib.Dec.{lit<}
use lib.ListN.{length, length-append}
use Rattle.names.specs.Bytes.{all}
use Rattle.names.specs.Class.{is_white, is_letter, is_digit}
use Rattle.names.specs.Pick.{pick, ◌and◌}
use Rattle.names.specs.Scan.{after}
use Rattle.names.specs.Order.{same}
use Rattle.names.proofs.Ordered.{same_refl, same_eq}
use Rattle.names.proofs.Tests.{and_l, and_r}
use Rattle.store.specs.Answer.{Answer, refused, accepted, ◌>>=◌, ◌>>◌, unless, present}
use Rattle.store.specs.Change.{Change}
use Rattle.store.specs.Machine.{Machine}
use Rattle.store.proofs.Calls.Answers.{refused-accepted, accepted-same, bind_accepted, then_accepted}
use Rattle.reader.specs.Tag.{Read, read, Attr, Tag, opens, closes, strip, skip, is_tag_byte, tag_name, none_twice, opening_tag, closing_tag, tag_by, tag_behind, next_tag}
use Rattle.reader.specs.Judge.{Header, Progress, Next, more, closed, judge}
use Rattle.reader.specs.Import.{is_nil, at_end, go_on, tags}
use Rattle.snapshot.specs.Print.{put_attr, put_attrs, put_end, put_tag, put_tags}
use Rattle.reader.proofs.PlainNames.{plain_name, tag_name-at}
use Rattle.snapshot.proofs.Attributes.{plain_attr, attributes-at, no_end}

-- A tag that can be written and read back.
unfoldable pub plain_tag : Tag → Bool
plain_tag (opens n as' self) = plain_name n and all plain_attr as' and none_twice as'
plain_tag (closes n) = plain_name n

-- Each attribute takes a byte.
attrs_longer : (as' : List Attr) (k : List ℕ) → length as' + length k ≤ length (put_attrs as' k)
unfolding put_attrs put_attr
attrs_longer [] k = omega arith
attrs_longer (a ∷ as') k = rw length-append (rw length-append (omega (arith, attrs_longer as' k)))

-- What follows the name of an element is no byte of a name.
name-ends : (as' : List Attr) (self : Bool) (k n : List ℕ) → plain_name n ≡ true
    → tag_name (n ++ put_attrs as' (put_end self k)) ≡ accepted (read n (put_attrs as' (put_end self k)))
unfolding put_attrs put_attr put_end is_tag_byte is_letter is_digit
name-ends [] true k n e = tag_name-at n 47 _ e refl
name-ends [] false k n e = tag_name-at n 62 _ e refl
name-ends (a ∷ as') self k n e = tag_name-at n 32 _ e refl

opening-at : (n : List ℕ) (as' : List Attr) (self : Bool) (k : List ℕ) → plain_tag (opens n as' self) ≡ true
    → opening_tag (n ++ put_attrs as' (put_end self k)) ≡ accepted (read (opens n as' self) (10 ∷ k))
unfolding opening_tag plain_tag unless ◌>>=◌ ◌>>◌
opening-at n as' self k e =
    let t = put_attrs as' (put_end self k) in
    let r = and_r (plain_name n) _ e in
    rw (
      name-ends as' self k n (and_l _ _ e),
      attributes-at as' self k (suc (length t)) (omega (arith, attrs_longer as' (put_end self k))) (and_l _ _ r),
      and_r (all plain_attr as') _ r,
    )

closing_at : (n k : List ℕ) → plain_name n ≡ true → closing_tag (n ++ put_end false k) ≡ accepted (read (closes n) (10 ∷ k))
unfolding closing_tag put_end is_tag_byte is_letter is_digit skip after is_white strip pick present ◌>>=◌
closing_at n k e = rw (tag_name-at n 62 (10 ∷ k) e refl)

pub next_tag-at : (t : Tag) (k : List ℕ) → plain_tag t ≡ true → next_tag (put_tag t k) ≡ accepted (read t (10 ∷ k))
unfolding next_tag tag_behind tag_by put_tag skip after is_white strip pick present ◌>>=◌
next_tag-at (opens n as' self) k e = rw (no_end n (put_attrs as' (put_end self k)) (name e) 47 [] (lit< tt)) (opening-at n as' self k e)
  where
    name : plain_tag (opens n as' self) ≡ true → plain_name n ≡ true
    name e = unfold plain_tag in and_l _ _ e
next_tag-at (closes n) k e = closing_at n k (unfold plain_tag in e)

-- A line feed in front is passed over.
pub next_tag_line : (k : List ℕ) → next_tag (10 ∷ k) ≡ next_tag k
unfolding next_tag skip after is_white pick
next_tag_line k = refl

-- Written tags judged one after another, with k behind the last; none once ODM is closed. Behind each the file goes on with the next line.
unfoldable pub next_line : List ℕ → Read Next → Answer Next
next_line s r = unless (same r.rest s) 4 >> accepted r.got

unfoldable pub judge_all : List ℕ → Machine → Header → Next → List Tag → Answer Next
judge_all k m h q [] = accepted q
judge_all k m h (more p) (t ∷ ts) = judge m h p t (10 ∷ put_tags ts k) >>= (λ r. next_line (10 ∷ put_tags ts k) r) >>= λ q. judge_all k m h q ts
judge_all k m h (closed cs) (t ∷ ts) = refused 4

pub judged_one : (k : List ℕ) (m : Machine) (h : Header) (p : Progress) (q : Next) (t : Tag) (ts : List Tag)
    → judge m h p t (10 ∷ put_tags ts k) ≡ accepted (read q (10 ∷ put_tags ts k)) → judge_all k m h (more p) (t ∷ ts) ≡ judge_all k m h q ts
unfolding judge_all next_line unless ◌>>=◌ ◌>>◌
judged_one k m h p q t ts e = rw (e, same_refl (10 ∷ put_tags ts k))

-- What an accepted one was.
line_kept : (s : List ℕ) (r : Read Next) (q : Next) → next_line s r ≡ accepted q → r ≡ read q s
unfolding next_line
line_kept s r q e = let a = then_accepted _ 4 _ q e in let b : r.rest ≡ s = same_eq r.rest s a.0 in let c : r.got ≡ q = accepted-same a.1 in
    ap (λ (x : Next). read x r.rest) c ∙ ap (λ (x : List ℕ). read q x) b

first_judged : (k : List ℕ) (m : Machine) (h : Header) (p : Progress) (r : Next) (t : Tag) (ts : List Tag) → judge_all k m h (more p) (t ∷ ts) ≡ accepted r
    → (q : Next) × (judge m h p t (10 ∷ put_tags ts k) ≡ accepted (read q (10 ∷ put_tags ts k))) × (judge_all k m h q ts ≡ accepted r)
unfolding judge_all
first_judged k m h p r t ts e =
    let a = bind_accepted (judge m h p t (10 ∷ put_tags ts k) >>= λ r. next_line (10 ∷ put_tags ts k) r) (λ q. judge_all k m h q ts) r e in
    let b = bind_accepted (judge m h p t (10 ∷ put_tags ts k)) (λ r. next_line (10 ∷ put_tags ts k) r) a.0 a.1 in
    let c : b.0 ≡ read a.0 (10 ∷ put_tags ts k) = line_kept (10 ∷ put_tags ts k) b.0 a.0 b.2 in
    (a.0, b.1 ∙ rw c, a.2)

-- Some tags, and then others.
put-append : (ts us : List Tag) (k : List ℕ) → put_tags (ts ++ us) k ≡ put_tags ts (put_tags us k)
unfolding put_tags
put-append [] us k = refl
put-append (t ∷ ts) us k = rw (put-append ts us k)

pub judge-append : (k : List ℕ) (m : Machine) (h : Header) (ts us : List Tag) (q r : Next) → judge_all (put_tags us k) m h q ts ≡ accepted r
    → judge_all k m h q (ts ++ us) ≡ judge_all k m h r us
judge-append k m h [] us q r e = let z : q ≡ r = unfold judge_all in (accepted-same e) in rw z
judge-append k m h (t ∷ ts) us (more p) r e =
    let a = first_judged (put_tags us k) m h p r t ts e in
    let b : judge m h p t (10 ∷ put_tags (ts ++ us) k) ≡ accepted (read a.0 (10 ∷ put_tags (ts ++ us) k)) = rw (put-append ts us k) a.1 in
    judged_one k m h p a.0 t (ts ++ us) b ∙ judge-append k m h ts us a.0 r a.2
judge-append k m h (t ∷ ts) us (closed cs) r e = absurd (refused-accepted 4 r (unfold judge_all in e))

pub tags_line : (n : ℕ) (m : Machine) (h : Header) (p : Progress) (k : List ℕ) → tags n m h p (10 ∷ k) ≡ tags n m h p k
unfolding tags
tags_line zero m h p k = refl
tags_line (suc n) m h p k = rw next_tag_line

step : (n : ℕ) (m : Machine) (h : Header) (p : Progress) (q : Next) (t : Tag) (k : List ℕ) → plain_tag t ≡ true → judge m h p t (10 ∷ k) ≡ accepted (read q (10 ∷ k))
    → tags (suc n) m h p (put_tag t k) ≡ go_on q (10 ∷ k) (λ p'. tags n m h p' (10 ∷ k))
unfolding tags ◌>>=◌
step n m h p q t k e j = rw (next_tag-at t k e, j)

-- Behind ODM's close only a line feed stands.
shut_line : (k : List ℕ) (m : Machine) (h : Header) (f : Progress → Answer (List Change)) (ds cs : List Change) → judge_all k m h (closed ds) [] ≡ accepted (closed cs)
    → go_on (closed ds) (10 ∷ put_tags [] []) f ≡ accepted cs
unfolding judge_all go_on at_end is_nil skip after is_white pick put_tags unless ◌>>=◌ ◌>>◌
shut_line k m h f ds cs i = cc

-- Reading written tags, with enough fuel, is judging them.
pub reread : (ts : List Tag) (n : ℕ) (m : Machine) (h : Header) (p : Progress) (cs : List Change) → all plain_tag ts ≡ true
    → judge_all [] m h (more p) ts ≡ accepted (closed cs) → tags (length ts + n) m h p (put_tags ts []) ≡ accepted cs
unfolding all put_tags
reread [] n m h p cs e j = absurd (let y : more p ≡ closed cs = unfold judge_all in (accepted-same j) in let z : ◌≡◌ {A = ℕ} 0 1 = cc in omega arith)
reread (t ∷ ts) n m h p cs e j =
    let a = first_judged [] m h p (closed cs) t ts j in
    rw suc-add (step (length ts + n) m h p a.0 t (put_tags ts []) (and_l _ _ e) a.1 ∙ go a.0 ts a.2 (λ p' i. reread ts n m h p' cs (and_r (plain_tag t) _ e) i))
  where
    go : (q : Next) (ts : List Tag) → judge_all [] m h q ts ≡ accepted (closed cs)
        → ((p' : Progress) → judge_all [] m h (more p') ts ≡ accepted (closed cs) → tags (length ts + n) m h p' (put_tags ts []) ≡ accepted cs)
        → go_on q (10 ∷ put_tags ts []) (λ p'. tags (length ts + n) m h p' (10 ∷ put_tags ts [])) ≡ accepted cs
    go (more p') ts i ih = unfold go_on in (tags_line (length ts + n) m h p' (put_tags ts []) ∙ ih p' i)
    go (closed ds) [] i ih = shut_line [] m h _ ds cs i
    go (closed ds) (u ∷ ts) i ih = absurd (refused-accepted 4 (closed cs) (unfold judge_all in i))

-- Each tag takes a byte, so the length of the text is fuel enough.
end_longer : (self : Bool) (k : List ℕ) → length k ≤ length (put_end self k)
unfolding put_end
end_longer true k = omega arith
end_longer false k = omega arith

tag_longer : (t : Tag) (k : List ℕ) → length k < length (put_tag t k)
unfolding put_tag
tag_longer (opens n as' self) k = rw length-append (omega (arith, attrs_longer as' (put_end self k), end_longer self k))
tag_longer (closes n) k = rw length-append (omega (arith, end_longer false k))

pub tags_longer : (ts : List Tag) (k : List ℕ) → length ts ≤ length (put_tags ts k)
unfolding put_tags
tags_longer [] k = omega arith
tags_longer (t ∷ ts) k = omega (arith, tags_longer ts k, tag_longer t (put_tags ts k))
