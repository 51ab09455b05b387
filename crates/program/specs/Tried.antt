-- What the inner functions of a turn owe each other. Nothing here is needed to read the promises.
use Rattle.std.specs.Prelude.{◌≡◌, Bool, true, cond, ℕ, List, Result, Ok, Err}
use Rattle.refusals.specs.declared.Refusal.{Refusal}
use Rattle.refusals.specs.Refusals.{refusal_number}
use Rattle.converter_state.specs.declared.state.State.{State}
use Rattle.frames_spec.specs.Frame.{count_limit, data_line, last_of}
use Rattle.frames_spec.specs.StartLine.{start_line}
use Rattle.program_spec.specs.declared.turn.Stream as code_stream
use Rattle.program_spec.specs.declared.turn.Turn as code_turn
use Rattle.program_spec.specs.Turn as turn
use Rattle.program_spec.specs.Turn.{Stream, refuses, start_turn, data_turn, Wrote, as_turn}

-- a stream of the code, of which the converter stands at this state
abbrev pub running : code_stream.Stream → State → Stream
running s state = record { state = state; started = true; last = last_of s.last; skip = s.skip; outputs = s.outputs; clips = s.clips }

-- What a turn over a line w comes to, of which `have` bytes are at hand, with room for text that held `old` and holds `left`: the turn is made, or it is refused, and the line of the
-- refusal is yet to be written.
abbrev pub Tried : turn.Result → Stream → ℕ → Bool → List ℕ → Result code_turn.Turn Refusal → List ℕ → Type 0
Tried w s have ended old (Ok t) left = Wrote w old (as_turn t) left
Tried w s have ended old (Err r) left = (w ≡ refuses s (refusal_number r) have ended) × (left ≡ old)

-- by the line that the bytes begin with: the K line, or a D line
abbrev pub line_turn : Stream → List ℕ → Bool → ℕ → turn.Result
line_turn s bs ended room = cond s.started (data_turn s (data_line s.last count_limit bs) bs ended room) (start_turn s (start_line bs) bs ended)
