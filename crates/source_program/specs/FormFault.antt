-- The fault of a clause whose grammar rule has no clause.
use Rattle.dcg_rules.specs.declared.fault.DcgFault.{DcgFault}
use Rattle.dcg_rules.specs.declared.fault.DcgFault.TheVariants as dcg
use Rattle.aq_base.specs.declared.refusal.FormKind.TheVariants as form
use Rattle.source_program.specs.declared.form_fault.FormFault.{FormFault}
use Rattle.source_program.specs.declared.form_fault.FormFault.TheVariants as fault

abbrev pub fault_of : DcgFault → FormFault
fault_of dcg.Head = fault.Form form.Head
fault_of dcg.Body = fault.Form form.Body
fault_of dcg.Memory = fault.Memory
