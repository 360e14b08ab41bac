use Rattle.image_stores.proofs.Stored.{stored_none, stored_one}
use Rattle.image_stores.proofs.put_held.Goals as goal

pub returns-in-None : goal.returns-in-None
returns-in-None c =
    let a = c.args in
    stored_none a.held a.out.now _ a.at _ c.in-None.is c.put.ensures

pub returns-in-Some : goal.returns-in-Some
returns-in-Some c =
    let a = c.args in
    stored_one a.held _ a.out.now _ _ a.at _ _ c.in-Some.is c.put-p.ensures c.put_job.ensures
