use Rattle.pq_meta.proofs.RoundTripLemmas.{footer_back}
use Rattle.pq_meta.proofs.laws.reads_back.Goals as goal

pub returns : goal.returns
returns c =
    let says = c.reads_back.ensures in
    footer_back (record {
      i32 = says.i32;
      i64 = says.i64;
      binary = says.binary;
      list_header = says.list_header;
      field_header = says.field_header;
      stop = says.stop;
    })
