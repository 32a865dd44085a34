-- Why a branch can only be rolled back, and what was decided heuristically, as codes.
use Rattle.xa_words.specs.declared.code.Code.{Code}
use Rattle.xa_words.specs.declared.code.Code.TheVariants.{RbRollback, RbTransient, HeurCom, HeurRb}
use Rattle.xa_tables.specs.declared.state.RollbackReason.{RollbackReason}
use Rattle.xa_tables.specs.declared.state.RollbackReason.TheVariants.{Failed, Transient}
use Rattle.xa_tables.specs.declared.state.HeuristicDecision.{HeuristicDecision}
use Rattle.xa_tables.specs.declared.state.HeuristicDecision.TheVariants as decision

-- the XA_RB* code of a reason
abbrev pub reason_code : RollbackReason → Code
reason_code Failed = RbRollback
reason_code Transient = RbTransient

-- XA_HEURCOM or XA_HEURRB
abbrev pub decision_code : HeuristicDecision → Code
decision_code decision.Commit = HeurCom
decision_code decision.Rollback = HeurRb
