use Rattle.kapi_http.proofs.Printed.{fault_shown, fault_waits}
use Rattle.kapi_http.proofs.laws.faults_are_decided_early.Goals as goal

pub returns-clause-shown : goal.returns-clause-shown
returns-clause-shown c = fault_shown

pub returns-clause-waits : goal.returns-clause-waits
returns-clause-waits c = fault_waits
