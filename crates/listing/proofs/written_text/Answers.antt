-- `written_text` meets its contract. Assumes nothing.
use mathlib.Core.Path.{refl}
use Rattle.std.proofs.lemmas.List.{take_min}
use Rattle.listing.proofs.written_text.Goals as goal

pub returns : goal.returns
returns c = record { result_value = rw (c.min.ensures) (take_min c.args.written.length c.args.out.now); ref_ptr_value = refl }
