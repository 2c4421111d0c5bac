use Rattle.thrift_compact.proofs.LawLemmas.{signed_says_one, byte_says_one, binary_says_one, list_header_says_one, field_header_says_one, value_says_one}
use Rattle.thrift_compact.proofs.laws.says_one.Goals as goal

pub returns-clause-signed : goal.returns-clause-signed
returns-clause-signed c = signed_says_one

pub returns-clause-byte : goal.returns-clause-byte
returns-clause-byte c = byte_says_one

pub returns-clause-binary : goal.returns-clause-binary
returns-clause-binary c = binary_says_one

pub returns-clause-list_header : goal.returns-clause-list_header
returns-clause-list_header c = list_header_says_one

pub returns-clause-field_header : goal.returns-clause-field_header
returns-clause-field_header c = field_header_says_one

pub returns-clause-value : goal.returns-clause-value
returns-clause-value c = value_says_one
