-- The bytes so far are lowered.
use Rattle.std.proofs.Common.{◌≡◌, ◌+◌, ◌++◌, length, take}
use Rattle.ppddl_lex.specs.Words.{lowered}
use Rattle.policy_server.proofs.byte_buffer.ByteBuffer.extend_lowered.Given as goal

abbrev pub invariant-loop-byte : goal.invariant-loop-byte
invariant-loop-byte l = record {
  bytes : l.self.bytes ≡ l.fn.self.bytes ++ lowered (take l.byte-index l.bytes);
  long : length l.self.bytes ≡ length l.fn.self.bytes + l.byte-index;
  room : l.self.room ≡ l.fn.self.room;
}
