use Rattle.cas_link_laws.proofs.Images.{linked}
use Rattle.cas_link_laws.proofs.laws.linked_images_have_the_lock.Goals as goal

pub returns : goal.returns
returns c = linked
