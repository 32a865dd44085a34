use Rattle.xa_desk.proofs.GoingOn.{goes_sent, goes_fulls, goes_looking, goes_quiet, goes_collecting, kept_stays}
use Rattle.xa_desk.proofs.GoingOn.{least_stays}
use Rattle.xa_desk.proofs.laws.operations_go_on.Goals as goal

pub returns : goal.returns
returns c = record {
  sending = goes_sent;
  full = goes_fulls;
  looking = goes_looking;
  quiet = goes_quiet;
  collecting = goes_collecting;
  collecting_kept = λ old new k code x. (kept_stays old new k code x).goes_on;
  collecting_least = λ old new m k code x. (least_stays old new m k code x).goes_on;
}
