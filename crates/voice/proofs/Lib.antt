pub mod LongFlush
pub mod FlushTable
