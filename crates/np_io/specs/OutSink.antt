-- What contracts say of a sink that is standard output.
use Rattle.std.specs.Prelude.{ℕ}
use Rattle.np_io.specs.declared.out_sink.OutSink.{OutSink}

-- how many calls failed, up to the end of a u64
abbrev pub fault_count : {R : Type 0} → OutSink R → ℕ
fault_count sink = sink.failed
