use Rattle.thrift_compact.proofs.LawLemmas.{signed_begins_none, byte_begins_none, binary_begins_none, list_header_begins_none, field_header_begins_none, value_begins_none}
use Rattle.thrift_compact.proofs.laws.none_begins_another.Goals as goal

pub returns-clause-signed : goal.returns-clause-signed
returns-clause-signed c = signed_begins_none

pub returns-clause-byte : goal.returns-clause-byte
returns-clause-byte c = byte_begins_none

pub returns-clause-binary : goal.returns-clause-binary
returns-clause-binary c = binary_begins_none

pub returns-clause-list_header : goal.returns-clause-list_header
returns-clause-list_header c = list_header_begins_none

pub returns-clause-field_header : goal.returns-clause-field_header
returns-clause-field_header c = field_header_begins_none

pub returns-clause-value : goal.returns-clause-value
returns-clause-value c = value_begins_none
