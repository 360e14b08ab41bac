use Rattle.image_stores.proofs.Stored.{wrote_job}
use Rattle.image_stores.proofs.put_job.Goals as goal

pub returns : goal.returns
returns c =
    let a = c.args in
    wrote_job a.o a.out.now _ _ _ _ _ a.at _ _ _ _ _ c.put_bytes-p0.ensures (rw c.from.ensures at c.put-p1.ensures) (rw c.from-2.ensures at c.put-p2.ensures)
    c.put_bytes-p3.ensures c.put.ensures
