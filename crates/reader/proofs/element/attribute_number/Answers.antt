use Rattle.std.proofs.Common.{◌≡◌, true, false, rules, drop}
use Rattle.std.proofs.lemmas.Iterator.{first_from_Range}
use Rattle.reader.specs.Element.{element_at}
use Rattle.reader.specs.code.AttributeNumbers.{row_of}
use Rattle.reader.specs.code.ElementNames.{leads}
use Rattle.reader.proofs.NameLaws.{number_told}
use Rattle.reader.proofs.element.attribute_number.Goals as goal

pub returns : goal.returns
returns c =
    let row = row_of (element_at c.args.element) in
    let n = c.args.n.now in
    let f = first_from_Range _ _ _ c.find.result (λ k. leads (drop k row) n ≡ true) (λ k. leads (drop k row) n ≡ false) c.find.ensures.ran (λ x q e. search rules) (λ x q e. search rules) in
    number_told c.args.element n c.requires.element_bound _ f
