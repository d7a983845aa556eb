use Rattle.std.proofs.lemmas.List.{drop-replicate}
use Rattle.jupyter_signature.proofs.keyed_hash.full_block.Goals as goal

pub returns : goal.returns
returns c = rw (c.copy_from_slice.ensures.after, drop-replicate)
