use Rattle.store.proofs.Calls.OpenLaws.{wrong_numbers, wrong_bytes, right_lengths_lem, unless_held, unless_failed}
use Rattle.store.proofs.sizes.buffers_sized.Goals as goal
use Rattle.store.proofs.sizes.buffers_sized.Goals.{else-numbers-eq-NUMBERS_SIZE-via-then-numbers-eq-NUMBERS_SIZE+else-bytes-eq-BYTES_SIZE, else-numbers-eq-NUMBERS_SIZE-via-else-numbers-eq-NUMBERS_SIZE}

pub returns-then-bytes-eq-BYTES_SIZE-clause-says : goal.returns-then-bytes-eq-BYTES_SIZE-clause-says
returns-then-bytes-eq-BYTES_SIZE-clause-says c = search (unless_held, right_lengths_lem)

pub returns-else-numbers-eq-NUMBERS_SIZE-clause-says : goal.returns-else-numbers-eq-NUMBERS_SIZE-clause-says
returns-else-numbers-eq-NUMBERS_SIZE-clause-says c = elim c.else-numbers-eq-NUMBERS_SIZE.branch [ else-numbers-eq-NUMBERS_SIZE-via-then-numbers-eq-NUMBERS_SIZE+else-bytes-eq-BYTES_SIZE w ↦ search (unless_failed, wrong_bytes) | else-numbers-eq-NUMBERS_SIZE-via-else-numbers-eq-NUMBERS_SIZE w ↦ search (unless_failed, wrong_numbers) ]
