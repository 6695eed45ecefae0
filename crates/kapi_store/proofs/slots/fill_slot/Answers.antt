use Rattle.kapi_store.proofs.slots.fill_slot.Goals as goal

pub returns-clause-entries : goal.returns-clause-entries
returns-clause-entries c = (c.get_mut.follows.holds _).0
