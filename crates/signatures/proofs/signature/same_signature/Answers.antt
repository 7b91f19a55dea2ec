-- Label and input count are compared first, then the classes at once.
use Rattle.signatures.proofs.Values.{labels_part, counts_part, classes_part, all_same}
use Rattle.signatures.proofs.signature.same_signature.Goals as goal

pub returns-then-a-b : goal.returns-then-a-b
returns-then-a-b c = search labels_part

pub returns-then-a-b-2 : goal.returns-then-a-b-2
returns-then-a-b-2 c = search counts_part

pub returns-then-a-b-3 : goal.returns-then-a-b-3
returns-then-a-b-3 c = search classes_part

pub returns : goal.returns
returns c = search all_same
