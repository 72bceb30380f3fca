-- Keys: their names, their order, and their bytes in a change.
use Rattle.std.specs.Prelude.{Bool, true, false, ◌||◌, List, [], ◌∷◌, ◌++◌, ℕ, zero, suc, eqb, length, take, drop}
use Rattle.names.specs.Name.{is_name}
use Rattle.names.specs.Order.{lex, alike, begins, bytes_order, same}
use Rattle.names.specs.Pick.{pick, ◌and◌}
use Rattle.std.specs.declared.cmp.Ordering.{Ordering}

-- A name; "absent repeat keys having length 0".
abbrev pub Name : Type 0
Name = List ℕ

-- A key is the list of the names that its depth uses, the subject's first.
abbrev pub Key : Type 0
Key = List Name

-- "Depths 1 to 5 use 1, 3, 5, 7, 8 names."
unfoldable pub names_used : ℕ → ℕ
names_used d = pick (eqb d 1) 1 (pick (eqb d 2) 3 (pick (eqb d 3) 5 (pick (eqb d 4) 7 (pick (eqb d 5) 8 0))))

-- The depth of a key that has these names.
unfoldable pub depth_of : Key → ℕ
depth_of k =
    pick (eqb (length k) 1) 1 (pick (eqb (length k) 3) 2 (pick (eqb (length k) 5) 3 (pick (eqb (length k) 7) 4 (pick (eqb (length k) 8) 5 0))))

-- "Key order: compare names from the first; bytes decide, a proper prefix (so also an absent one) comes first; a parent precedes its children."
unfoldable pub key_order : Key → Key → Ordering
key_order = lex bytes_order

unfoldable pub same_key : Key → Key → Bool
same_key = alike same

-- The first key is the second or an ancestor of it.
unfoldable pub covers : Key → Key → Bool
covers = begins same

-- "A repeat key may be absent".
unfoldable pub is_repeat : Name → Bool
is_repeat [] = true
is_repeat (c ∷ s) = is_name (c ∷ s)

-- OIDs and repeat keys in turn, as depths 2 to 4 have them; an item's OID stands alone.
unfoldable pub are_levels : Key → Bool
are_levels [] = true
are_levels (n ∷ []) = is_name n
are_levels (n ∷ r ∷ ns) = is_name n and is_repeat r and are_levels ns

-- The names are of their forms and as many as a depth uses: 1 (SubjectKey), then an OID and a repeat key for each depth, the last OID alone.
unfoldable pub is_key : Key → Bool
is_key [] = false
is_key (n ∷ ns) = is_name n and are_levels ns and eqb (names_used (depth_of (n ∷ ns))) (length (n ∷ ns))

-- The names that an element of a depth adds to its parent's: its key or OID, and at depths 2, 3 and 4 its repeat key.
unfoldable pub own_names : ℕ → Name → Name → Key
own_names d n r = pick (eqb d 1 || eqb d 5) (n ∷ []) (n ∷ r ∷ [])

-- "each used name as a length byte and its text"
unfoldable pub packed : Key → List ℕ
packed [] = []
packed (n ∷ ns) = length n ∷ (n ++ packed ns)

-- n packed names at the front of a text. Where the text ends early, what is missing is absent.
unfoldable pub names_in : ℕ → List ℕ → Key
names_in zero s = []
names_in (suc n) [] = [] ∷ names_in n []
names_in (suc n) (l ∷ s) = take l s ∷ names_in n (drop l s)
