pub mod ReadExamples
