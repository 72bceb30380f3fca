-- The written form of a file: its tags, read off the bytes that remain. Whatever breaks it is refused with 4.
use Rattle.std.specs.Prelude.{Bool, true, false, not, ◌||◌, List, [], ◌∷◌, ℕ, zero, suc, eqb, length}
use Rattle.std.proofs.Math.Option.{Option, none, some}
use Rattle.names.specs.Bytes.{bytes, ch, all, any}
use Rattle.names.specs.Class.{is_white, is_letter, is_digit, is_value_byte}
use Rattle.names.specs.Order.{same}
use Rattle.names.specs.Pick.{pick, ◌and◌}
use Rattle.names.specs.Scan.{front, after}
use Rattle.names.specs.Text.{decode, in_value}
use Rattle.store.specs.Answer.{Answer, refused, accepted, ◌>>=◌, ◌>>◌, unless, present}

-- What was read, and the bytes that follow it.
pub record Read (A : Type 0) : Type 0 where
  pub got : A
  pub rest : List ℕ

abbrev pub read : {A : Type 0} → A → List ℕ → Read A
read a s = record { got = a; rest = s }

pub record Attr : Type 0 where
  pub name : List ℕ
  pub value : List ℕ

abbrev pub attr : List ℕ → List ℕ → Attr
attr n v = record { name = n; value = v }

-- An opening tag with its attributes, self-closing or not; or a closing tag.
pub data Tag : Type 0 where
  opens : List ℕ → List Attr → Bool → Tag
  closes : List ℕ → Tag

-- What follows a given beginning.
unfoldable pub strip : List ℕ → List ℕ → Option (List ℕ)
strip [] s = some s
strip (p ∷ ps) [] = none
strip (p ∷ ps) (c ∷ s) = pick (eqb p c) (strip ps s) none

unfoldable pub first_is : (ℕ → Bool) → List ℕ → Bool
first_is p [] = false
first_is p (c ∷ s) = p c

unfoldable pub skip : List ℕ → List ℕ
skip s = after is_white s

-- "Element and attribute names are letters, digits and colons, a letter first."
unfoldable pub is_tag_byte : ℕ → Bool
is_tag_byte c = is_letter c || is_digit c || eqb c (ch ":")

unfoldable pub tag_name : List ℕ → Answer (Read (List ℕ))
tag_name s = unless (first_is is_letter s) 4 >> accepted (read (front is_tag_byte s) (after is_tag_byte s))

-- "Values stand in `"` or `'`, hold bytes 32 to 126 except `<` and their own quote, with .. decoded and no other `&`."
unfoldable pub is_quote : ℕ → Bool
is_quote c = eqb c (ch "\"") || eqb c (ch "'")

-- A written text up to the byte q, decoded, and what follows that byte.
unfoldable pub up_to : ℕ → List ℕ → Answer (Read (List ℕ))
up_to q s =
    present (strip (q ∷ []) (after (in_value q) s)) 4 >>= λ t.
    present (decode (front (in_value q) s)) 4 >>= λ v.
    accepted (read v t)

unfoldable pub quoted : List ℕ → Answer (Read (List ℕ))
quoted [] = refused 4
quoted (q ∷ s) = unless (is_quote q) 4 >> up_to q s

-- One attribute: "White space .. may stand around `=`".
unfoldable pub attribute : List ℕ → Answer (Read Attr)
attribute s =
    tag_name s >>= λ n.
    present (strip (bytes "=") (skip n.rest)) 4 >>= λ t.
    quoted (skip t) >>= λ v.
    accepted (read (attr n.got v.got) v.rest)

-- The attributes of a tag, and whether it is self-closing.
pub record Attributes : Type 0 where
  pub attrs : List Attr
  pub self : Bool

-- The end of a tag: `>`, or `/>` of a self-closing one.
unfoldable pub end_by : Option (List ℕ) → Option (List ℕ) → Option (Read Attributes)
end_by (some t) u = some (read record { attrs = []; self = false } t)
end_by none (some u) = some (read record { attrs = []; self = true } u)
end_by none none = none

unfoldable pub tag_end : List ℕ → Option (Read Attributes)
tag_end s = end_by (strip (bytes ">") s) (strip (bytes "/>") s)

unfoldable pub attribute_in_front : Attr → Read Attributes → Read Attributes
attribute_in_front a r = read record { attrs = a ∷ r.got.attrs; self = r.got.self } r.rest

-- The tag ends here, or white space and an attribute stand here, and `more` reads what follows it.
unfoldable pub attributes_by : Option (Read Attributes) → List ℕ → (List ℕ → Answer (Read Attributes)) → Answer (Read Attributes)
attributes_by (some e) s more = accepted e
attributes_by none s more = unless (first_is is_white s) 4 >> attribute (skip s) >>= λ a. more a.rest >>= λ r. accepted (attribute_in_front a.got r)

-- "White space stands before each attribute and may stand .. before `>` or `/>`." The first argument bounds the attributes' number.
unfoldable pub attributes : ℕ → List ℕ → Answer (Read Attributes)
attributes zero s = refused 4
attributes (suc n) s = attributes_by (tag_end (skip s)) s (λ t. attributes n t)

unfoldable pub has : List ℕ → List Attr → Bool
has n as' = any (λ a. same n a.name) as'

-- "attribute twice"
unfoldable pub none_twice : List Attr → Bool
none_twice [] = true
none_twice (a ∷ as') = not (has a.name as') and none_twice as'

unfoldable pub opening_tag : List ℕ → Answer (Read Tag)
opening_tag s =
    tag_name s >>= λ n.
    attributes (suc (length n.rest)) n.rest >>= λ r.
    unless (none_twice r.got.attrs) 4
    >> accepted (read (opens n.got r.got.attrs r.got.self) r.rest)

unfoldable pub closing_tag : List ℕ → Answer (Read Tag)
closing_tag s = tag_name s >>= λ n. present (strip (bytes ">") (skip n.rest)) 4 >>= λ t. accepted (read (closes n.got) t)

-- Behind a `<`: a closing tag where `/` follows.
unfoldable pub tag_by : Option (List ℕ) → List ℕ → Answer (Read Tag)
tag_by (some u) t = closing_tag u
tag_by none t = opening_tag t

unfoldable pub tag_behind : List ℕ → Answer (Read Tag)
tag_behind t = tag_by (strip (bytes "/") t) t

-- The next tag, "the text before a tag with it": "only white space between tags and around".
unfoldable pub next_tag : List ℕ → Answer (Read Tag)
next_tag s = present (strip (bytes "<") (skip s)) 4 >>= λ t. tag_behind t

-- A text up to the first place of w in it, and what follows that.
unfoldable pub cut_by : Option (List ℕ) → ℕ → Option (Read (List ℕ)) → Option (Read (List ℕ))
cut_by (some t) c more = some (read [] t)
cut_by none c none = none
cut_by none c (some r) = some (read (c ∷ r.got) r.rest)

unfoldable pub cut : List ℕ → List ℕ → Option (Read (List ℕ))
cut w [] = none
cut w (c ∷ s) = cut_by (strip w (c ∷ s)) c (cut w s)

unfoldable pub is_none : {A : Type 0} → Option A → Bool
is_none none = true
is_none (some a) = false

-- "The value is the element's body, entities decoded, or a single CDATA section": a body, and what follows the `<` of the tag behind it. "A body holds
-- bytes 32 to 126, outside CDATA without `]]>` and with no `&` but the five; breaking this, or CDATA beside text or CDATA, is 4."
unfoldable pub body_by : Option (List ℕ) → List ℕ → Answer (Read (List ℕ))
body_by (some t) s =
    present (cut (bytes "]]>") t) 4 >>= λ c.
    unless (all is_value_byte c.got) 4
    >> present (strip (bytes "<") c.rest) 4 >>= λ r.
    accepted (read c.got r)
body_by none s = unless (is_none (cut (bytes "]]>") (front (in_value (ch "<")) s))) 4 >> up_to (ch "<") s

unfoldable pub text_body : List ℕ → Answer (Read (List ℕ))
text_body s = body_by (strip (bytes "<![CDATA[") s) s

-- The closing tag of the element n, behind which r follows: "A child element is 5", another closing tag 4.
unfoldable pub closes_by : List ℕ → Tag → List ℕ → Answer (List ℕ)
closes_by n (opens o as' self) r = refused 5
closes_by n (closes o) r = unless (same o n) 4 >> accepted r

-- What the element n holds, if it is text, and what follows its closing tag; "An empty body, self-closing or not".
unfoldable pub content : Bool → List ℕ → List ℕ → Answer (Read (List ℕ))
content true n s = accepted (read [] s)
content false n s = text_body s >>= λ b. tag_behind b.rest >>= λ t. closes_by n t.got t.rest >>= λ r. accepted (read b.got r)
