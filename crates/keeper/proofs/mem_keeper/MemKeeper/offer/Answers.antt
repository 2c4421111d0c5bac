use Rattle.keeper.proofs.OfferLemmas.{gains_offered, stays_offered}
use Rattle.keeper.proofs.mem_keeper.MemKeeper.offer.Goals as goal

pub returns-clause-stay : goal.returns-clause-stay
returns-clause-stay c = stays_offered c.args.batch.now c.args.self.now c.keep_offer.new.self c.keep_offer.ensures.content c.keep_offer.ensures.offers

pub returns-clause-gains : goal.returns-clause-gains
returns-clause-gains c = gains_offered c.args.batch.now c.args.self.now c.keep_offer.new.self c.keep_offer.ensures.content c.keep_offer.ensures.offers
