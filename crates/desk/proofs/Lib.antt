pub mod SinkRow
