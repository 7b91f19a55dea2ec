-- The sums are those of the definition.
use native.Mathlib.Omega.{arith}
use Rattle.rounds.proofs.Buckets.{bucket_made}
use Rattle.signatures.proofs.signature.bucket_of.Goals as goal

pub returns : goal.returns
returns c = (bucket_made _ _ _, omega arith)
