-- `stands` meets its contract.
use Rattle.ere_member.proofs.Reading.{stands-here}
use Rattle.ere_member.proofs.members.stands.Goals as goal

pub returns : goal.returns
returns c = let e = c.eq.ensures in rw (e, c.copied.ensures) (stands-here _ _ _ _ c.get.ensures.lookup)
