use Rattle.thrift_compact.proofs.StandingLemmas.{signed_faults_stand, byte_faults_stand, binary_faults_stand, list_header_faults_stand, field_header_faults_stand, value_faults_stand}
use Rattle.thrift_compact.proofs.laws.faults_stand.Goals as goal

pub returns-clause-signed : goal.returns-clause-signed
returns-clause-signed c = signed_faults_stand

pub returns-clause-byte : goal.returns-clause-byte
returns-clause-byte c = byte_faults_stand

pub returns-clause-binary : goal.returns-clause-binary
returns-clause-binary c = binary_faults_stand

pub returns-clause-list_header : goal.returns-clause-list_header
returns-clause-list_header c = list_header_faults_stand

pub returns-clause-field_header : goal.returns-clause-field_header
returns-clause-field_header c = field_header_faults_stand

pub returns-clause-value : goal.returns-clause-value
returns-clause-value c = value_faults_stand
