use Rattle.call.proofs.Call.at_destination.Goals as goal

pub returns-in-Setup : goal.returns-in-Setup
returns-in-Setup c = rw c.in-Setup.is c.destination_setup.ensures

pub returns-in-FromDomain : goal.returns-in-FromDomain
returns-in-FromDomain c = rw c.in-FromDomain.is c.destination_calling_release.ensures
