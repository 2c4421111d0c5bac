use Rattle.thrift_compact.proofs.LawLemmas.{i32_back, i64_back, binary_back, list_header_back, field_header_back, stop_back}
use Rattle.thrift_compact.proofs.laws.reads_back.Goals as goal

pub returns-clause-i32 : goal.returns-clause-i32
returns-clause-i32 c = i32_back

pub returns-clause-i64 : goal.returns-clause-i64
returns-clause-i64 c = i64_back

pub returns-clause-binary : goal.returns-clause-binary
returns-clause-binary c = binary_back

pub returns-clause-list_header : goal.returns-clause-list_header
returns-clause-list_header c = list_header_back

pub returns-clause-field_header : goal.returns-clause-field_header
returns-clause-field_header c = field_header_back

pub returns-clause-stop : goal.returns-clause-stop
returns-clause-stop c = stop_back
