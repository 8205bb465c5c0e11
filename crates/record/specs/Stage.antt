-- What the private functions under `encode` ask for. No public contract cites this file.
use Rattle.std.specs.Prelude.{ℕ, ◌+◌, ◌*◌, ◌≤◌, ◌≡◌, false, length}
use Rattle.stream.specs.Layout.{header_length, frame_width}
use Rattle.stream.specs.declared.Kind.{Kind}
use Rattle.record.specs.Encode.{is_unknown, high_command, wrong_length}
use Rattle.record.specs.Record.{Record, frames_in}

-- a record whose command and payload's length fit the kind, and an output with room for the stream
pub record Fits (K : Kind) (r : Record) (room : ℕ) : Type 0 where
  pub known : is_unknown K ≡ false
  pub low : high_command K r.header.command ≡ false
  pub sized : wrong_length K r.header.command (length r.payload) ≡ false
  pub held : header_length K + (frame_width K + 2) * frames_in K r ≤ room
