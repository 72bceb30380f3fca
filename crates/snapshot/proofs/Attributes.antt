-- Written attributes are read back, with what follows them.
use mathlib.Core.Path.{◌≡◌, refl, ◌∙◌}
use mathlib.Core.Bool.{Bool, true, false, false≢true}
use mathlib.Core.List.{List, [], ◌∷◌, ◌++◌}
use mathlib.Core.Option.{none}
use Prim.Native.Nat.{ℕ, zero, suc, ◌<◌}
use native.Mathlib.Nat.{not-suc-le-zero, le_of_suc-le-suc}
use lib.Dec.{lit<}
use lib.ListN.{length}
use Rattle.names.specs.Bytes.{all}
use Rattle.names.specs.Class.{is_white, is_value_byte}
use Rattle.names.specs.Pick.{pick, ◌and◌}
use Rattle.names.specs.Scan.{after}
use Rattle.names.specs.Text.{escape}
use Rattle.names.proofs.Tests.{and_l, and_r}
use Rattle.store.specs.Answer.{accepted, ◌>>=◌, ◌>>◌, unless, present}
use Rattle.reader.specs.Tag.{read, Attr, strip, first_is, skip, attribute, Attributes, end_by, tag_end, attribute_in_front, attributes_by, attributes}
use Rattle.snapshot.specs.Print.{put_attr, put_attrs, put_end}
use Rattle.reader.proofs.PlainNames.{plain_name, tag_name-at, ends_61, not_letter, skip-name}
use Rattle.snapshot.proofs.Quoted.{quoted-escape}

-- An attribute that can be written and read back.
unfoldable pub plain_attr : Attr → Bool
plain_attr a = plain_name a.name and all is_value_byte a.value

attribute-at : (a : Attr) (k : List ℕ) → plain_attr a ≡ true → attribute (a.name ++ (61 ∷ 34 ∷ (escape a.value ++ (34 ∷ k)))) ≡ accepted (read a k)
unfolding attribute plain_attr strip skip after is_white pick present ◌>>=◌ ◌>>◌
attribute-at a k e =
    rw (tag_name-at a.name 61 (34 ∷ (escape a.value ++ (34 ∷ k))) (and_l _ _ e) ends_61, quoted-escape a.value k (and_r (plain_name a.name) _ e))

-- No tag ends at a name.
pub no_end : (n t : List ℕ) → plain_name n ≡ true → (d : ℕ) (ds : List ℕ) → d < 65 → strip (d ∷ ds) (n ++ t) ≡ none
unfolding plain_name first_is strip pick
no_end [] t e d ds h = absurd (false≢true (and_l _ _ e))
no_end (c ∷ n) t e d ds h = rw (not_letter c d (and_l _ _ e) h)

no_tag_end : (n t : List ℕ) → plain_name n ≡ true → tag_end (n ++ t) ≡ none
unfolding tag_end end_by
no_tag_end n t e = rw (no_end n t e 62 [] (lit< tt), no_end n t e 47 (62 ∷ []) (lit< tt))

-- One more attribute.
one_more_lem : (s t : List ℕ) (m : ℕ) (a : Attr) (r : Attributes) (k : List ℕ) → tag_end (skip s) ≡ none → first_is is_white s ≡ true
    → attribute (skip s) ≡ accepted (read a t) → attributes m t ≡ accepted (read r k)
    → attributes (suc m) s ≡ accepted (read record { attrs = a ∷ r.attrs; self = r.self } k)
unfolding attributes attributes_by attribute_in_front unless ◌>>=◌ ◌>>◌
one_more_lem s t m a r k q w e f = rw (q, w, e, f)

skip_space : (s : List ℕ) → skip (32 ∷ s) ≡ skip s
unfolding skip after is_white pick
skip_space s = refl

space_first : (s : List ℕ) → first_is is_white (32 ∷ s) ≡ true
unfolding first_is is_white
space_first s = refl

plain-name : (a : Attr) → plain_attr a ≡ true → plain_name a.name ≡ true
unfolding plain_attr
plain-name a e = and_l _ _ e

ended : (self : Bool) (k : List ℕ) (m : ℕ) → attributes (suc m) (put_end self k) ≡ accepted (read record { attrs = []; self = self } (10 ∷ k))
unfolding put_end attributes attributes_by tag_end end_by skip after is_white strip pick
ended true k m = refl
ended false k m = refl

pub attributes-at : (as' : List Attr) (self : Bool) (k : List ℕ) (m : ℕ) → length as' < m → all plain_attr as' ≡ true
    → attributes m (put_attrs as' (put_end self k)) ≡ accepted (read record { attrs = as'; self = self } (10 ∷ k))
unfolding all put_attrs put_attr
attributes-at as' self k zero h e = absurd (not-suc-le-zero h)
attributes-at [] self k (suc m) h e = ended self k m
attributes-at (a ∷ as') self k (suc m) h e =
    let p : plain_attr a ≡ true = and_l _ _ e in
    let pn : plain_name a.name ≡ true = plain-name a p in
    let rest : List ℕ = put_attrs as' (put_end self k) in
    let tail : List ℕ = 61 ∷ 34 ∷ (escape a.value ++ (34 ∷ rest)) in
    let sk : skip (32 ∷ (a.name ++ tail)) ≡ a.name ++ tail = skip_space (a.name ++ tail) ∙ skip-name a.name tail pn in
    one_more_lem (32 ∷ (a.name ++ tail)) rest m a record { attrs = as'; self = self } (10 ∷ k) (rw sk (no_tag_end a.name tail pn)) (space_first (a.name ++ tail)) (rw sk (attribute-at a rest p))
    (attributes-at as' self k m (le_of_suc-le-suc h) (and_r (plain_attr a) _ e))
