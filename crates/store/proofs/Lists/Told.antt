-- What a test that a called function made told, where the code asks whether it failed.
use mathlib.Core.Path.{◌≡◌, sym, ◌∙◌}
use mathlib.Core.Bool.{Bool, true, false, not}
use borrow.Author.Tests.{not-true, not-false}

pub told-no : (t b : Bool) → t ≡ b → not t ≡ true → b ≡ false
told-no t b e f = sym e ∙ not-true t f

pub told-yes : (t b : Bool) → t ≡ b → not t ≡ false → b ≡ true
told-yes t b e f = sym e ∙ not-false t f
