use Rattle.ordering.proofs.Laws.{order_holds}
use Rattle.ordering.proofs.test.Goals as goal

pub returns-in-Rising : goal.returns-in-Rising
returns-in-Rising c =
    order_holds _ _ _ _ _ _ _ _ (c.rise.ensures.rising, c.rise.ensures.repeated) _ c.covers.ensures c.in-Rising.is c.if-covers.true
