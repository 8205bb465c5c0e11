-- The bytes that are left fall: a header step takes four, and a payload step, which may take none, counts one more.
use Rattle.std.proofs.Common.{◌+◌, length}
use Rattle.sections.proofs.chain.+header_step_payload_step.Given as goal

abbrev pub decreases-header_step : goal.decreases-header_step
decreases-header_step l = length l.rest.now

abbrev pub decreases-payload_step : goal.decreases-payload_step
decreases-payload_step l = length l.rest.now + 1
