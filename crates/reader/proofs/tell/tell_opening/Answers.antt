use Rattle.std.specs.Prelude.{Ok}
use Rattle.std.proofs.lemmas.Result.{err_from_is_err_and}
use Rattle.std.proofs.Common.{refl}
use Rattle.reader.proofs.TellLaws.{tag_placed, entity-row, row-few, opens-on, told-clinical, told_wordless, body_none, body_some, is-typed, told_typed, told-entity}
use borrow.Author.Rules.{rules}
use Rattle.reader.proofs.tell.tell_opening.Goals as goal

pub returns-then-elements-eq0 : goal.returns-then-elements-eq0
returns-then-elements-eq0 c = told-clinical _ _ _ _ c.requires.level_bound c.requires.attributed.0 c.requires.attributed.1 _ c.if-elements-eq0.true c.pass.ensures

pub own_word-requires : goal.own_word-requires
own_word-requires c = record { le_element = entity-row c.args.s.now c.args.t c.args.snapshot c.args.elements c.requires.level_bound c.requires.attributed.0 c.requires.attributed.1 c.if-elements-eq0.false; attributed = search rules; placed = tag_placed c.args.s.now c.args.t c.args.snapshot c.args.elements c.requires.level_bound c.requires.attributed.0 c.requires.attributed.1 }

pub returns-in_err-word : goal.returns-in_err-word
returns-in_err-word c = let p = err_from_is_err_and c.from_residual.result c.from_residual.ensures.1 in rw (p.1, p.2) (told_wordless _ _ _ _ c.requires.level_bound c.requires.attributed.0 c.requires.attributed.1 c.if-elements-eq0.false _ _ _ c.word.ensures c.own_word.ensures c.in_err-word.ensures.answered c.in_err-word.ensures.numbered _ refl)

pub body_form-requires : goal.body_form-requires
body_form-requires c = record { names = search rules; element_bound = row-few c.args.s.now c.args.t c.args.snapshot c.args.elements c.requires.level_bound c.requires.attributed.0 c.requires.attributed.1 }

pub tell_typed-requires : goal.tell_typed-requires
tell_typed-requires c = record { classes = search rules; s_len_bound = search rules; typed = is-typed _ _ _ _ c.requires.level_bound c.requires.attributed.0 c.requires.attributed.1 c.if-elements-eq0.false _ _ (Ok _) c.word.ensures c.own_word.ensures c.in_ok-word.ensures.answered c.in_ok-word.ensures.numbered _ refl _ (body_some _ _ c.in-Some.ensures.0 c.in-Some.ensures.1) }

pub returns-in-Some : goal.returns-in-Some
returns-in-Some c = told_typed _ _ _ _ c.requires.level_bound c.requires.attributed.0 c.requires.attributed.1 c.if-elements-eq0.false _ _ (Ok _) c.word.ensures c.own_word.ensures c.in_ok-word.ensures.answered c.in_ok-word.ensures.numbered _ refl _ _ (body_some _ _ c.in-Some.ensures.0 c.in-Some.ensures.1) c.tell_typed.ensures

pub pass-requires-in-None : goal.pass-requires-in-None
pass-requires-in-None c = search opens-on

pub returns-in-None : goal.returns-in-None
returns-in-None c = told-entity _ _ _ _ c.requires.level_bound c.requires.attributed.0 c.requires.attributed.1 c.if-elements-eq0.false _ _ (Ok _) c.word.ensures c.own_word.ensures c.in_ok-word.ensures.answered c.in_ok-word.ensures.numbered _ refl _ (body_none _ _ refl c.in-None.ensures) c.pass-in-None.ensures
