-- The bench run of 01, B1 to B16, and that of the destination, by computation, at rows of 1, 64 and 1,024 records. Assumes nothing.
use mathlib.Core.Path.{refl}
use Rattle.lent.specs.Search.{read_from}
use Rattle.distinct.specs.Distinct.{has, distinct_of}
use Rattle.call_table.specs.Bench.{bench_run, bench_after, bench_shown, BenchRun}
use Rattle.call_table.specs.DestinationBench.{destination_run, destination_shown, DestinationBenchRun}

pub bench_1 : BenchRun 0
unfolding bench_run bench_after bench_shown read_from has distinct_of
bench_1 = refl

pub bench_64 : BenchRun 63
unfolding bench_run bench_after bench_shown read_from has distinct_of
bench_64 = refl

pub bench_1024 : BenchRun 1023
unfolding bench_run bench_after bench_shown read_from has distinct_of
bench_1024 = refl

pub destination_bench_1 : DestinationBenchRun 0
unfolding destination_run bench_after destination_shown read_from has distinct_of
destination_bench_1 = refl

pub destination_bench_64 : DestinationBenchRun 63
unfolding destination_run bench_after destination_shown read_from has distinct_of
destination_bench_64 = refl

pub destination_bench_1024 : DestinationBenchRun 1023
unfolding destination_run bench_after destination_shown read_from has distinct_of
destination_bench_1024 = refl
