use Rattle.lines.proofs.Onward.{in_order, turned_left, turned_none}
use Rattle.lines.proofs.more.Goals as goal

pub take-requires : goal.take-requires
take-requires g c = let a = c.args in let q = in_order a.reader.now a.chunk.now c.if-reader-chunk.true in record {
  from_le_to = q.0;
  to_in_bounds = q.1;
}

pub returns-then-reader-chunk : goal.returns-then-reader-chunk
returns-then-reader-chunk g c = let a = c.args in let t = c.take in let q = turned_left a.reader.now a.chunk.now c.if-reader-chunk.true a.line.now a.kept.now t.new.reader t.new.line t.result _ t.ensures.by_index t.ensures.reader_value in record {
  by_index = q.0;
  reader_value = q.1;
}

pub returns : goal.returns
returns g c = let a = c.args in let q = turned_none a.reader.now a.chunk.now c.if-reader-chunk.false a.line.now a.kept.now c.fill.new.chunk c.fill.result _ in record {
  by_index = q.0;
  reader_value = q.1;
}
