use Rattle.eb_file.proofs.Apart.{images_apart_lem}
use Rattle.eb_file.proofs.laws.images_apart.Goals as goal

pub returns : goal.returns
returns c = images_apart_lem
