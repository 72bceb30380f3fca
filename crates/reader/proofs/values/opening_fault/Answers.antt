use Rattle.reader.proofs.PlainValues.{found_stretches}
use Rattle.reader.proofs.OpeningLaws.{place-cases}
use Rattle.reader.proofs.ElementPlaced.{row-few}
use borrow.Author.Rules.{rules}
use Rattle.reader.proofs.values.opening_fault.Goals as goal

pub stands_here-requires : goal.stands_here-requires
stands_here-requires c = record { names = search rules; element_bound = search row-few }

pub returns-then-not-stands_here : goal.returns-then-not-stands_here
returns-then-not-stands_here c = search place-cases

pub returns-then-t : goal.returns-then-t
returns-then-t c = search place-cases

pub returns-then-not-required_there : goal.returns-then-not-required_there
returns-then-not-required_there c = search place-cases

pub returns-then-not-one_sort : goal.returns-then-not-one_sort
returns-then-not-one_sort c = search place-cases

pub values_formed-requires : goal.values_formed-requires
values_formed-requires c = record { classes = search rules; element_bound = search row-few; stretches = search found_stretches }

pub returns-then-not-values_formed : goal.returns-then-not-values_formed
returns-then-not-values_formed c = search place-cases

pub returns-then-value_beside_null : goal.returns-then-value_beside_null
returns-then-value_beside_null c = search place-cases

pub returns : goal.returns
returns c = search place-cases
