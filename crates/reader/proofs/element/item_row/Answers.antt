use Rattle.std.proofs.Common.{◌≡◌, true, false, rules}
use Rattle.std.proofs.lemmas.Iterator.{first_from_Range}
use Rattle.names.specs.Order.{same}
use Rattle.reader.specs.Element.{element_at}
use Rattle.reader.proofs.ElementPlaced.{row_told}
use Rattle.reader.proofs.element.item_row.Goals as goal

pub returns : goal.returns
returns c =
    let n = c.args.n.now in
    let f = first_from_Range _ _ _ c.find.result (λ k. same n (element_at k).name ≡ true) (λ k. same n (element_at k).name ≡ false) c.find.ensures.ran (λ x q e. search rules) (λ x q e. search rules) in
    rw c.unwrap_or.ensures (row_told n _ f)
