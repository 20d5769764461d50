-- A sheet's columns as the writer takes them and as the reader gives them.
use Rattle.std.specs.Prelude.{take}
use Rattle.lists.specs.Front.{at}
use Rattle.sheet.specs.declared.Sheet.{Sheet}
use Rattle.sheet.specs.Format.{padded}

-- cut to n stations and m queues, as they are handed to the writer
abbrev pub trimmed : Sheet → Sheet
trimmed f = record {
  version = f.version;
  n = f.n;
  m = f.m;
  target = f.target;
  tag = take f.n f.tag;
  time = take f.n f.time;
  source = take f.m f.source;
  sink = take f.m f.sink;
  produced = take f.m f.produced;
  consumed = take f.m f.consumed;
  delay = take f.m f.delay;
}

-- followed by 0 up to 32 stations and 64 queues, as the reader gives them
abbrev pub filled : Sheet → Sheet
filled f = record {
  version = f.version;
  n = f.n;
  m = f.m;
  target = f.target;
  tag = padded 32 f.n (at f.tag);
  time = padded 32 f.n (at f.time);
  source = padded 64 f.m (at f.source);
  sink = padded 64 f.m (at f.sink);
  produced = padded 64 f.m (at f.produced);
  consumed = padded 64 f.m (at f.consumed);
  delay = padded 64 f.m (at f.delay);
}
