-- What the code does with a plan, and the plans that say what becomes of the changes.
use mathlib.Core.Path.{◌≡◌, refl, sym, ap, ◌∙◌}
use mathlib.Core.Bool.{Bool, true, false}
use mathlib.Core.List.{List, [], ◌∷◌, ◌++◌, append_assoc}
use native.Mathlib.Omega.{arith}
use Prim.Native.Nat.{ℕ, ◌-◌, ◌≤◌}
use lib.ListN.{length, take}
use Rattle.names.specs.Key.{depth_of}
use Rattle.std.specs.Prelude.{Some, None, Result, Ok, Err}
use Rattle.store.specs.code.Deciding.{kind_said}
use Rattle.store.specs.declared.decide.Kind.{Kind as Planned}
use Rattle.store.specs.Answer.{Answer, refused, accepted, unless, ◌>>=◌, ◌>>◌}
use Rattle.store.specs.Change.{Change, kind_number, change_bytes, is_change}
use Rattle.store.specs.Image.{change_in}
use Rattle.store.specs.Machine.{changes_of, within_limits, allowed_by}
use Rattle.store.specs.code.Rows.{first_changes}
use Rattle.store.specs.code.Pending.{machine_of, added_at, Taking, NextChange, LooksUp, changes_with, added_as, AddedTo}
use Rattle.store.specs.declared.pending.Pending.{Pending}
use Rattle.store.specs.code.Refusals.{number_of}
use Rattle.store.specs.declared.answer.Refusal.{Refusal}
use Rattle.store.proofs.Images.ImageLaws.{change-read}
use Rattle.reader.specs.Judge.{adding}
use Rattle.reader.specs.code.Acting.{Denied, finger_at, change_planned, plan_changes, Ready, Plans, Unchanged, ChangedBy}
use Rattle.reader.specs.declared.act.Plan.{Plan}
use Rattle.reader.proofs.EntityLaws.{from_start}

-- The change that a kind, a depth and bytes say.
module _ (x : Change) (kind depth : ℕ) (text : List ℕ) (f : is_change x ≡ true) (k : kind_number x.kind ≡ kind) (d : depth_of x.key ≡ depth) (b : change_bytes x ≡ text) where
  change-is : change_in kind depth text ≡ x
  change-is = rw (← k, ← d, ← b) (change-read x f)

  next_up : (ns bs : List ℕ) (t : Pending) → allowed_by x.kind (first_changes ns bs t.changes) x.key ≡ true → NextChange ns bs t kind depth text
  next_up ns bs t a = record { kind-is = rw change-is k; depth_is = rw change-is d; whole = rw change-is b; formed = rw change-is f; allowed = rw change-is a }

module _ (a : Answer (List Change)) (ns bs index : List ℕ) (t : Pending) (depth : ℕ) (text : List ℕ) (p : Plan) where
  -- A plan that adds no change,
  pub planned_rests : p.kind ≡ None → a ≡ accepted (added_at ns bs t.changes) → Plans a ns bs index t depth text p
  planned_rests z e = record { is = e ∙ (unfold change_planned in rw z); ready = λ k q. let w : ◌≡◌ {A = ℕ} 0 1 = cc in absurd (omega arith) }

  adds_is : (x : Change) (y : Planned) → p.kind ≡ Some y → change_in (kind_number (kind_said y)) depth (take p.end text) ≡ x
      → plan_changes (machine_of ns bs) (added_at ns bs t.changes) depth text p ≡ adding (machine_of ns bs) (added_at ns bs t.changes) x
  unfolding change_planned
  adds_is x y z c = rw (z, c)

  -- and one that adds this change.
  pub planned_adds : (x : Change) (y : Planned) → is_change x ≡ true → p.kind ≡ Some y → kind_number x.kind ≡ kind_number (kind_said y) → depth_of x.key ≡ depth → change_bytes x ≡ take p.end text → p.end ≤ length text
      → allowed_by x.kind (first_changes ns bs t.changes) x.key ≡ true → LooksUp ns bs index t x.key p.lookup → a ≡ adding (machine_of ns bs) (added_at ns bs t.changes) x
      → Plans a ns bs index t depth text p
  planned_adds x y f z n d b h allowed looked is =
      let c : change_in (kind_number (kind_said y)) depth (take p.end text) ≡ x = change-is x _ depth (take p.end text) f n d b in
      record {
        is = is ∙ sym (adds_is x y z c);
        ready = λ k q.
            let w : y ≡ k = cc in
            rw (← w) (h, record { next = next_up x _ depth (take p.end text) f n d b ns bs t allowed; looked = rw c looked });
      }

-- A plan is carried out: its change may be added,
module _ (ns bs index : List ℕ) (t : Pending) (depth : ℕ) (text : List ℕ) (p : Plan) (ready : Ready ns bs index t depth text p) (y : Planned) (n : p.kind ≡ Some y) where
  pub ready-inside : p.end ≤ length text
  ready-inside = (ready y n).0

  module _ (m : ℕ) (q : m ≡ kind_number (kind_said y)) where
    pub ready-next : NextChange ns bs t m depth (take (p.end - 0) text)
    ready-next = rw (q, from_start p.end) (ready y n).1.next

    pub ready-looked : LooksUp ns bs index t (change_in m depth (take (p.end - 0) text)).key p.lookup
    ready-looked = rw (q, from_start p.end) (ready y n).1.looked

-- No change is added: the place where the next key is looked for first may move.
pub taking_finger : (ns bs index : List ℕ) (t : Pending) (f : ℕ) → Taking ns bs index t → Taking ns bs index (finger_at t f)
taking_finger ns bs index t f k =
    let l = k.loaded in
    record {
      loaded = record {
        numbers-size = l.numbers-size;
        bytes-size = l.bytes-size;
        rules = l.rules;
        holds = l.holds;
        joined = l.joined;
        few = l.few;
        small = l.small;
      };
      indexed = k.indexed;
    }

module _ (ns bs index : List ℕ) (t : Pending) (taking : Taking ns bs index t) (depth : ℕ) (text : List ℕ) (p : Plan) where
  abbrev tells : Answer (List Change)
  tells = plan_changes (machine_of ns bs) (added_at ns bs t.changes) depth text p

  -- None is to be;
  pub carried_none : (t' : Pending) → p.kind ≡ None → Unchanged t t' → ChangedBy tells ns bs ns bs index (Ok t')
  unfolding change_planned
  carried_none t' z u = record { is = rw (z, u); machine = refl; taking = rw u (taking_finger ns bs index t t'.finger taking) }

  -- or it was added, within the limits or beyond them.
  module _ (y : Planned) (n : p.kind ≡ Some y) (m : ℕ) (q : m ≡ kind_number (kind_said y)) (ns' bs' index' : List ℕ) where
    abbrev x : Change
    x = change_in m depth (take (p.end - 0) text)

    tells_is : tells ≡ adding (machine_of ns bs) (added_at ns bs t.changes) x
    tells_is = unfold change_planned in rw (n, q, from_start p.end)

    limits : (b : Bool) → within_limits (first_changes ns bs t.changes ++ x ∷ []) ≡ b
        → within_limits (changes_of (machine_of ns bs).files ++ (added_at ns bs t.changes ++ x ∷ [])) ≡ b
    limits b e = rw (← append_assoc, ← taking.loaded.joined) e

    full : within_limits (first_changes ns bs t.changes ++ x ∷ []) ≡ false → adding (machine_of ns bs) (added_at ns bs t.changes) x ≡ refused 13
    unfolding adding unless ◌>>◌ ◌>>=◌
    full e = rw (limits false e)

    grown : within_limits (first_changes ns bs t.changes ++ x ∷ []) ≡ true → adding (machine_of ns bs) (added_at ns bs t.changes) x ≡ accepted (added_at ns bs t.changes ++ x ∷ [])
    unfolding adding unless ◌>>◌ ◌>>=◌
    grown e = rw (limits true e)

    over : within_limits (first_changes ns bs t.changes ++ x ∷ []) ≡ false → changes_with (first_changes ns bs t.changes) x ≡ refused 13
    unfolding changes_with unless ◌>>◌ ◌>>=◌
    over e = rw e

    pub carried_out : (r : Result Pending Refusal) → added_as ns' bs' r ≡ changes_with (first_changes ns bs t.changes) x → AddedTo ns bs t x ns' bs' index' r → ChangedBy tells ns bs ns' bs' index' r
    carried_out (Err k) v u = record { is = tells_is ∙ full u.beyond ∙ sym (v ∙ over u.beyond); numbers = u.numbers; bytes = u.bytes }
    carried_out (Ok t') v u = record { is = tells_is ∙ grown u.within ∙ ap accepted (sym u.added); machine = u.machine; taking = u.taking }

-- The plan of a tag is carried out.
module _ (a : Answer (List Change)) (ns bs index : List ℕ) (t : Pending) (depth : ℕ) (text : List ℕ) (p : Plan) (x : Plans a ns bs index t depth text p) where
  pub plan-ready : Ready ns bs index t depth text p
  plan-ready = x.ready

  pub plan-done : (r : Result Pending Refusal) (ns' bs' index' : List ℕ) → ChangedBy (plan_changes (machine_of ns bs) (added_at ns bs t.changes) depth text p) ns bs ns' bs' index' r
      → ChangedBy a ns bs ns' bs' index' r
  plan-done r ns' bs' index' y = rw x.is y

-- A tag that is refused changes nothing.
pub plan-refused : (a : Answer (List Change)) (ns bs : List ℕ) (k : Refusal) → a ≡ refused (number_of k) → Denied a k ns bs ns bs
plan-refused a ns bs k e = record { is = e; numbers = refl; bytes = refl }
