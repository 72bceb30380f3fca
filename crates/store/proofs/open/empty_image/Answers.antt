use Rattle.store.proofs.Images.EmptyImage.{image-empty, emptied}
use Rattle.store.proofs.open.empty_image.Goals as goal

pub returns : goal.returns
returns c = search (image-empty, emptied)
